use Rattle.tv_core.proofs.Common.{◌≡◌, ◌-◌, ◌^◌, ◌<◌, arith, gives_refused}
use Rattle.tv_core.proofs.LoopLaws.{gives_no_turn, gives_turn, gives_turn_refused}
use Rattle.tv_shift.specs.Thermometer.{level_value}
use Rattle.tv_shift.proofs.thermometer.fill_level.Goals as goal

pub loop-j-init : goal.loop-j-init
loop-j-init g c = (gives_no_turn g.V.Values.giving (level_value c.args.y c.args.k) _, c.requires.whole)

pub loop-j-preserved : goal.loop-j-preserved
loop-j-preserved g c =
    let f = level_value c.args.y c.args.k in
    let same : c.of.result ≡ f c.loop-j.j = omega (arith, c.of.ensures, c.level_value.ensures.value, c.level_value.ensures.bit) in
    let one = rw same at c.in_ok-give.ensures.gives in
    (gives_turn g.V.Values.giving f _ _ _ _ c.loop-j.invariant.0 one, c.in_ok-give.ensures.whole)

pub returns-in_err-give-clause-gives : goal.returns-in_err-give-clause-gives
returns-in_err-give-clause-gives g c =
    let f = level_value c.args.y c.args.k in
    let same : c.of.result ≡ f c.loop-j.j = omega (arith, c.of.ensures, c.level_value.ensures.value, c.level_value.ensures.bit) in
    let one = rw same at c.in_err-give.ensures.gives in
    let within : c.loop-j.j < 2 ^ c.args.k - 1 = omega arith in
    gives_refused _ _ _ _ _ c.from_residual.ensures.1
    (gives_turn_refused g.V.Values.giving f (2 ^ c.args.k - 1) c.loop-j.j _ _ _ _ within c.loop-j.invariant.0 one)
