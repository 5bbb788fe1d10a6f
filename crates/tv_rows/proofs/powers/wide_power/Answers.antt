use Rattle.tv_core.proofs.Common.{refused, all_then, some_then, some_first, all_last, refl}
use Rattle.tv_rows.specs.Power.{wide_power_of}
use Rattle.tv_rows.proofs.powers.wide_power.Goals as goal

pub returns-in_err-low-clause-emits : goal.returns-in_err-low-clause-emits
unfolding wide_power_of
returns-in_err-low-clause-emits g c = refused _ _ _ c.from_residual.ensures.1 (some_first _ c.in_err-low.ensures.emits)

pub returns-in_err-power-clause-emits : goal.returns-in_err-power-clause-emits
unfolding wide_power_of
returns-in_err-power-clause-emits g c =
    let p1 = rw (c.set_wire.ensures.terms, c.set_factor.ensures.terms, c.offset.ensures) at c.in_err-power.ensures.emits in
    refused _ _ _ c.from_residual-in_err-power.ensures.1 (some_then _ c.in_ok-low.ensures.emits (some_first _ p1))

pub returns-clause-emits : goal.returns-clause-emits
unfolding wide_power_of
returns-clause-emits g c =
    let p1 = rw (c.set_wire.ensures.terms, c.set_factor.ensures.terms, c.offset.ensures) at c.in_ok-power.ensures.emits in
    all_then _ c.in_ok-low.ensures.emits (all_last _ p1 refl)
