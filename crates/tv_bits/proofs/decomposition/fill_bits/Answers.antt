use Rattle.tv_core.proofs.Common.{bit_at, gives_refused}
use Rattle.tv_core.proofs.LoopLaws.{gives_no_turn, gives_turn, gives_turn_refused}
use Rattle.tv_bits.proofs.decomposition.fill_bits.Goals as goal

pub loop-i-init : goal.loop-i-init
loop-i-init g c = (gives_no_turn g.V.Values.giving (bit_at c.args.x) _, c.requires.whole)

pub loop-i-preserved : goal.loop-i-preserved
loop-i-preserved g c =
    let one = rw c.bit_at.ensures at c.in_ok-give.ensures.gives in
    (gives_turn g.V.Values.giving (bit_at c.args.x) _ _ _ _ c.loop-i.invariant.0 one, c.in_ok-give.ensures.whole)

pub returns-in_err-give-clause-gives : goal.returns-in_err-give-clause-gives
returns-in_err-give-clause-gives g c =
    let one = rw c.bit_at.ensures at c.in_err-give.ensures.gives in
    gives_refused g.V.Values.giving _ _ _ c.from_residual.result c.from_residual.ensures.1
    (gives_turn_refused g.V.Values.giving (bit_at c.args.x) c.args.n c.loop-i.i _ _ _ _ c.loop-i-test.true c.loop-i.invariant.0 one)
