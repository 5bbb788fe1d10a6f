use Rattle.tv_core.proofs.Common.{◌≡◌, ◌++◌, ◌∷◌, [], List, map, sym, ap, ◌∙◌, subst, arith, length-map, Line}
use Rattle.std.proofs.lemmas.List.{map-append}
use Rattle.tv_lines.proofs.PackingLaws.{unpack_packed}
use Rattle.tv_lines.specs.PackedLines.{unpacked, without_old, LineInRange}
use Rattle.tv_lines.specs.Placed.{LinesFrom}
use Rattle.tv_argument_tests.proofs.Made.{more_placed}
use Rattle.tv_argument_tests.proofs.rows.items.Goals as goal

pub loop-time-preserved : goal.loop-time-preserved
loop-time-preserved c =
    let one : Line = without_old c.line.result in
    let before : List Line = map unpacked c.loop-time.items.items in
    let many = length-map c.loop-time.items.items unpacked in
    let range : LineInRange one = record {
      cell = omega (arith, c.line.ensures.cell, c.if-cell.false);
      time = omega (arith, c.line.ensures.time, c.loop-time-test.true, c.loop-time.auto.time-end);
      old = omega arith;
      new = omega arith;
    } in
    let is : unpacked c.pack_item.result ≡ one = ap unpacked c.pack_item.ensures ∙ unpack_packed one range in
    let all : map unpacked c.push.new.self.items ≡ before ++ one ∷ [] =
    ap (map unpacked) c.in_ok-push.ensures.items ∙ map-append unpacked c.loop-time.items.items (c.pack_item.result ∷ []) ∙ ap (λ l. before ++ l ∷ []) is in
    record {
      many = omega (arith, c.in_ok-push.ensures.len, c.loop-time.invariant.many);
      times = subst (LinesFrom 0) (sym all)
          (more_placed 0 before one c.loop-time.invariant.times (c.line.ensures.time ∙ omega (arith, many, c.loop-time.invariant.many))
          (record { cell = range.cell; old = range.old; new = range.new }));
    }
