use Rattle.tv_core.proofs.Common.{◌≡◌, ◌-◌, ◌<◌, sym, ap, arith, refused_whole, emits_as, emits_no_turn, emits_turn, turn_some}
use Rattle.tv_core.proofs.BelowLaws.{sum_below-zero}
use Rattle.tv_core.proofs.Rooms.{room_left}
use Rattle.tv_double_argument.proofs.Made.{output_made, words_later}
use Rattle.tv_double_argument.proofs.Sums.{sum_next, sum_most}
use Rattle.tv_double_argument.specs.Checks.{check_made, check_added}
use Rattle.tv_double_argument.proofs.argument.check_each.Goals as goal

pub loop-i-init : goal.loop-i-init
loop-i-init g c = record { emits = emits_as (sym (sum_below-zero _)) (sym (sum_below-zero _)) (emits_no_turn _ _ c.requires.room.whole) }

pub check-requires-clause-room : goal.check-requires-clause-room
check-requires-clause-room g c =
    let all = g.L.DoubleLines.lines c.args.lines.now in
    let i = c.loop-i.i in
    let below : i < all.count - 1 = omega (arith, c.loop-i-test.true, c.count-i-end.ensures) in
    let made : check_made c.kind.result ≡ check_made (all.kind i) = ap check_made c.kind.ensures in
    let added : check_added c.kind.result ≡ check_added (all.kind i) = ap check_added c.kind.ensures in
    room_left c.requires.room c.loop-i.invariant.emits.grows (omega (
      arith,
      made,
      added,
      sum_most (all.count - 1) i (λ i. check_made (all.kind i)) below,
      sum_most (all.count - 1) i (λ i. check_added (all.kind i)) below,
    ))

pub check-requires-clause-item : goal.check-requires-clause-item
check-requires-clause-item g c =
    rw c.set_item.ensures (output_made c.args.outputs.now.network c.args.outputs.now.first c.loop-i.i (g.S.Sink.meaning.wires c.loop-i.s)
    (omega (arith, c.requires.many, c.loop-i-test.true, c.count-i-end.ensures)) (omega (arith, c.requires.below, c.loop-i.invariant.emits.grows.wires)))

pub check-requires-clause-words : goal.check-requires-clause-words
check-requires-clause-words g c =
    rw c.set_new.ensures.is (words_later (g.S.Sink.meaning.wires c.args.s.now) (g.S.Sink.meaning.wires c.loop-i.s)
    ((g.L.DoubleLines.lines c.args.lines.now).new c.loop-i.i) (omega (arith, c.loop-i.invariant.emits.grows.wires))
    (c.requires.made.new c.loop-i.i (omega (arith, c.loop-i-test.true, c.count-i-end.ensures))))

pub loop-i-preserved : goal.loop-i-preserved
loop-i-preserved g c =
    let one = rw (c.kind.ensures, c.set_item.ensures, c.set_new.ensures.is) at c.in_ok-check.ensures.emits in
    record { emits = emits_as (sym (sum_next c.loop-i.i _)) (sym (sum_next c.loop-i.i _)) (emits_turn _ _ _ c.loop-i.invariant.emits one) }

pub returns-in_err-check : goal.returns-in_err-check
returns-in_err-check g c =
    let below : c.loop-i.i < (g.L.DoubleLines.lines c.args.lines.now).count - 1 = omega (arith, c.loop-i-test.true, c.count-i-end.ensures) in
    let one = rw (c.kind.ensures, c.set_item.ensures, c.set_new.ensures.is) at c.in_err-check.ensures.emits in
    refused_whole _ _ _ c.from_residual.ensures (turn_some _ _ _ c.loop-i.invariant.emits below one)
