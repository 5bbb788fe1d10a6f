use Rattle.tv_core.proofs.Common.{◌≡◌, suc, ◌-◌, ◌^◌, ◌<◌, ap, ap₂, ◌∙◌, arith, add-one, gives_refused}
use Rattle.tv_benes.proofs.ColumnChain.{no_switch, one_switch, switch_refused}
use Rattle.tv_benes.specs.Through.{missing}
use Rattle.tv_benes.proofs.values.fill_last.Goals as goal

pub loop-j-init : goal.loop-j-init
loop-j-init g c =
    record { gives = no_switch _ _ _ _; whole = c.requires.whole }

pub loop-j-preserved : goal.loop-j-preserved
loop-j-preserved g c =
    record {
      gives = one_switch _ _ _ _ _ _ _ c.loop-j.invariant.gives c.in_ok-fill_last_switch.ensures.gives;
      whole = c.in_ok-fill_last_switch.ensures.whole;
    }

pub returns-in_err-fill_last_switch-clause-gives : goal.returns-in_err-fill_last_switch-clause-gives
returns-in_err-fill_last_switch-clause-gives g c =
    let h = c.args.h in
    let count : c.long_power.result - c.long_missing.result
    ≡ 2 ^ suc h - missing c.args.net = ap₂ (λ a b. a - b) (c.long_power.ensures.is ∙ ap (λ k. 2 ^ k) (add-one h)) c.long_missing.ensures in
    let within : c.loop-j.j < 2 ^ suc h - missing c.args.net = omega (arith, c.loop-j-test.true, count) in
    gives_refused _ _ _ _ _ c.from_residual.ensures.1
    (switch_refused _ _ _ _ _ _ _ _ _ within c.loop-j.invariant.gives c.in_err-fill_last_switch.ensures.gives)

pub returns-clause-gives : goal.returns-clause-gives
returns-clause-gives g c =
    let all : c.loop-j.j ≡ 2 ^ suc c.args.h - missing c.args.net =
    omega (arith, ap₂ (λ a b. a - b) (c.long_power.ensures.is ∙ ap (λ k. 2 ^ k) (add-one c.args.h)) c.long_missing.ensures) in
    rw all at c.loop-j.invariant.gives
