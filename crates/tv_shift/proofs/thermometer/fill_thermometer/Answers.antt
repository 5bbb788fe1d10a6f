use Rattle.tv_core.proofs.Common.{gives_refused}
use Rattle.tv_shift.proofs.LevelValues.{gives_no_level, gives_level, gives_level_refused}
use Rattle.tv_shift.proofs.thermometer.fill_thermometer.Goals as goal

pub loop-i-init : goal.loop-i-init
loop-i-init g c = (gives_no_level g.V.Values.giving c.args.y _, c.requires.whole)

pub loop-i-preserved : goal.loop-i-preserved
loop-i-preserved g c =
    (gives_level g.V.Values.giving c.args.y _ _ _ _ c.loop-i.invariant.0 c.in_ok-fill_level.ensures.gives, c.in_ok-fill_level.ensures.whole)

pub returns-in_err-fill_level-clause-gives : goal.returns-in_err-fill_level-clause-gives
returns-in_err-fill_level-clause-gives g c =
    gives_refused _ _ _ _ _ c.from_residual.ensures.1
    (gives_level_refused g.V.Values.giving c.args.y c.args.k c.loop-i.i _ _ _ _ c.loop-i-test.true c.loop-i.invariant.0 c.in_err-fill_level.ensures.gives)
