use Rattle.tv_core.proofs.Common.{◌<◌, arith, gives_refused_whole}
use Rattle.tv_core.proofs.LoopLaws.{gives_no_turn, gives_turn, gives_turn_refused}
use Rattle.tv_regs.specs.Triple.{passing}
use Rattle.tv_regs.proofs.triple.fill_passing.Goals as goal

pub loop-i-init : goal.loop-i-init
loop-i-init g c = (gives_no_turn g.V.Values.giving (passing c.args.o c.args.b c.args.d c.args.regs.now) _, c.requires.whole)

pub loop-i-preserved : goal.loop-i-preserved
loop-i-preserved g c =
    let one = rw c.passing.ensures at c.in_ok-give.ensures.gives in
    (gives_turn g.V.Values.giving (passing c.args.o c.args.b c.args.d c.args.regs.now) _ _ _ _ c.loop-i.invariant.0 one, c.in_ok-give.ensures.whole)

pub returns-in_err-give : goal.returns-in_err-give
returns-in_err-give g c =
    let within : c.loop-i.i < 16 = omega arith in
    let one = rw c.passing.ensures at c.in_err-give.ensures.gives in
    gives_refused_whole g.V.Values.giving _ _ _ c.from_residual.result _ c.from_residual.ensures
    (gives_turn_refused g.V.Values.giving (passing c.args.o c.args.b c.args.d c.args.regs.now) 16 c.loop-i.i _ _ _ _ within c.loop-i.invariant.0 one)
