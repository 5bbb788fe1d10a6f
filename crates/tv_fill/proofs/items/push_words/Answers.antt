use Rattle.tv_core.proofs.Common.{◌+◌, List, [], ◌∷◌, ◌++◌, map, take, sym, ap, ◌∙◌, arith, slice_index, Line}
use Rattle.tv_core.specs.declared.lines.PairNum.{PairNum}
use Rattle.tv_fill.proofs.Packed.{item_more}
use Rattle.tv_layout.proofs.Boot.{boot_more}
use Rattle.tv_lines.specs.PackedLines.{LineInRange, packed_item}
use Rattle.tv_step.specs.Cells.{boot_from}
use Rattle.tv_fill.proofs.items.push_words.Goals as goal

pub push_line-requires : goal.push_line-requires
push_line-requires c =
    let line : LineInRange (record {
      cell = c.args.cell + c.loop-i.i;
      time = c.args.time + c.loop-i.i;
      old = 0;
      new = slice_index c.args.words.now c.loop-i.i;
    }) = record {
      cell = omega (arith, c.requires.cells, c.loop-i-test.true);
      time = omega (arith, c.requires.times, c.loop-i-test.true);
      old = omega arith;
      new = omega (arith, c.type_inv.words c.loop-i.i);
    } in
    rw c.word_line.ensures line

pub loop-i-preserved : goal.loop-i-preserved
loop-i-preserved c =
    let i = c.loop-i.i in
    let words = c.args.words.now in
    let front : List PairNum = c.args.items.now.items in
    let line : Line = record { cell = c.args.cell + i; time = c.args.time + i; old = 0; new = slice_index words i } in
    c.in_ok-push_line.ensures
    ∙ ap (λ (l : Line). c.loop-i.items.items ++ packed_item l ∷ []) c.word_line.ensures
    ∙ ap (λ (ls : List PairNum). ls ++ packed_item line ∷ []) c.loop-i.invariant
    ∙ item_more front (boot_from c.args.cell c.args.time (take i words)) line
    ∙ ap (λ (ls : List Line). front ++ map packed_item ls) (sym (boot_more c.args.cell c.args.time words i c.loop-i-test.true))
