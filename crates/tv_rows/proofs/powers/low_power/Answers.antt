use Rattle.tv_core.proofs.Common.{refused, all_then, some_then, some_first, all_last, refl}
use Rattle.tv_rows.specs.Power.{low_power_of}
use Rattle.tv_rows.proofs.powers.low_power.Goals as goal

pub returns-in_err-both-clause-emits : goal.returns-in_err-both-clause-emits
unfolding low_power_of
returns-in_err-both-clause-emits g c =
    let both = rw (c.set_wire.ensures.terms, c.set_wire-2.ensures.terms, c.offset.ensures) at c.in_err-both.ensures.emits in
    refused _ _ _ c.from_residual.ensures.1 (some_first _ both)

pub returns-in_err-middle-clause-emits : goal.returns-in_err-middle-clause-emits
unfolding low_power_of
returns-in_err-middle-clause-emits g c =
    let both = rw (c.set_wire.ensures.terms, c.set_wire-2.ensures.terms, c.offset.ensures) at c.in_ok-both.ensures.emits in
    let middle = rw (c.set_factor.ensures.terms, c.set_factor-2.ensures.terms, c.offset-2.ensures, c.offset-3.ensures)
    at c.in_err-middle.ensures.emits in
    refused _ _ _ c.from_residual-in_err-middle.ensures.1 (some_then _ both (some_first _ middle))

pub returns-in_err-power-clause-emits : goal.returns-in_err-power-clause-emits
unfolding low_power_of
returns-in_err-power-clause-emits g c =
    let both = rw (c.set_wire.ensures.terms, c.set_wire-2.ensures.terms, c.offset.ensures) at c.in_ok-both.ensures.emits in
    let middle = rw (c.set_factor.ensures.terms, c.set_factor-2.ensures.terms, c.offset-2.ensures, c.offset-3.ensures)
    at c.in_ok-middle.ensures.emits in
    let power = rw (c.set_pair_power.ensures.terms, c.set_wire-3.ensures.terms) at c.in_err-power.ensures.emits in
    refused _ _ _ c.from_residual-in_err-power.ensures.1 (some_then _ both (some_then _ middle (some_first _ power)))

pub returns-clause-emits : goal.returns-clause-emits
unfolding low_power_of
returns-clause-emits g c =
    let both = rw (c.set_wire.ensures.terms, c.set_wire-2.ensures.terms, c.offset.ensures) at c.in_ok-both.ensures.emits in
    let middle = rw (c.set_factor.ensures.terms, c.set_factor-2.ensures.terms, c.offset-2.ensures, c.offset-3.ensures)
    at c.in_ok-middle.ensures.emits in
    let power = rw (c.set_pair_power.ensures.terms, c.set_wire-3.ensures.terms) at c.in_ok-power.ensures.emits in
    all_then _ both (all_then _ middle (all_last _ power refl))
