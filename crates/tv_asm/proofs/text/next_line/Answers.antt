use Rattle.std.proofs.Common.{◌<◌, ◌∙◌, length, arith, ap}
use Rattle.std.proofs.lemmas.Bool.Decides.{nat_tests}
use Rattle.std.proofs.lemmas.List.{nil_from_length, length-drop}
use Rattle.tv_asm.specs.Text.{lines}
use Rattle.tv_asm.proofs.TextLemmas.{lines_more, lines-nil}
use Rattle.tv_asm.proofs.text.next_line.Goals as goal

pub returns-then-is_empty : goal.returns-then-is_empty
returns-then-is_empty c =
    ap lines (nil_from_length c.args.text.now (grind (arith, nat_tests))) ∙ lines-nil

pub returns : goal.returns
returns c =
    let some : 0 < length c.args.text.now = grind (arith, nat_tests) in (
      rw (
        c.without_return.ensures,
        c.cut.ensures.before,
        c.cut.ensures.remaining,
      ) (lines_more c.args.text.now some),
      rw (c.cut.ensures.remaining, length-drop) (omega arith),
    )
