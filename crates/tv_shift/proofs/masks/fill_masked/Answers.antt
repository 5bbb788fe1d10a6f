use Rattle.tv_core.proofs.Common.{◌/◌, gives_refused}
use Rattle.tv_core.proofs.LoopLaws.{gives_no_turn, gives_turn, gives_turn_refused}
use Rattle.tv_shift.specs.Masks.{mask_value, masked_value}
use Rattle.tv_shift.proofs.masks.fill_masked.Goals as goal

pub loop-i-init : goal.loop-i-init
loop-i-init g c = (gives_no_turn g.V.Values.giving (masked_value (mask_value g.row.W c.args.s c.args.part) c.args.x (g.row.W / 4)) _, c.requires.whole)

pub loop-i-preserved : goal.loop-i-preserved
loop-i-preserved g c =
    let f = masked_value (mask_value g.row.W c.args.s c.args.part) c.args.x (g.row.W / 4) in
    let one = rw c.masked_value.ensures at c.in_ok-give.ensures.gives in
    (gives_turn g.V.Values.giving f _ _ _ _ c.loop-i.invariant.0 one, c.in_ok-give.ensures.whole)

pub returns-in_err-give-clause-gives : goal.returns-in_err-give-clause-gives
returns-in_err-give-clause-gives g c =
    let f = masked_value (mask_value g.row.W c.args.s c.args.part) c.args.x (g.row.W / 4) in
    let one = rw c.masked_value.ensures at c.in_err-give.ensures.gives in
    gives_refused _ _ _ _ _ c.from_residual.ensures.1
    (gives_turn_refused g.V.Values.giving f (g.row.W / 4) c.loop-i.i _ _ _ _ c.loop-i-test.true c.loop-i.invariant.0 one)
