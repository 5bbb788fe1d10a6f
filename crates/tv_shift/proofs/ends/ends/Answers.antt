use Rattle.tv_core.proofs.Common.{all_then, some_then, some_first, refused_wires, all_last, refl}
use Rattle.tv_shift.specs.Shift.{ends_of}
use Rattle.tv_shift.proofs.ends.ends.Goals as goal

pub returns-in_err-left : goal.returns-in_err-left
unfolding ends_of
returns-in_err-left g c =
    let left = rw (c.set_wire.ensures.terms, c.set_wire-2.ensures.terms) at c.in_err-left.ensures.emits in
    refused_wires _ _ _ _ c.from_residual.ensures (some_first _ left)

pub returns-in_err-right : goal.returns-in_err-right
unfolding ends_of
returns-in_err-right g c =
    let left = rw (c.set_wire.ensures.terms, c.set_wire-2.ensures.terms) at c.in_ok-left.ensures.emits in
    let right = rw (c.in_ok-left.ensures.a, c.set_wire.ensures.terms, c.set_wire-3.ensures.terms) at c.in_err-right.ensures.emits in
    refused_wires _ _ _ _ c.from_residual-in_err-right.ensures (some_then _ left (some_first _ right))

pub returns-clause-emits : goal.returns-clause-emits
unfolding ends_of
returns-clause-emits g c =
    let left = rw (c.set_wire.ensures.terms, c.set_wire-2.ensures.terms) at c.in_ok-left.ensures.emits in
    let right = rw (c.in_ok-left.ensures.a, c.set_wire.ensures.terms, c.set_wire-3.ensures.terms) at c.in_ok-right.ensures.emits in
    all_then _ left (all_last _ right refl)
