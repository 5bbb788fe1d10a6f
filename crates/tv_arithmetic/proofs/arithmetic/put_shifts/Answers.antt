use Rattle.tv_core.proofs.Common.{all_then, some_then, some_first, refused_wires, all_last, refl, emits_as, arith}
use Rattle.tv_arithmetic.specs.Arithmetic.{shifts_of}
use Rattle.tv_arithmetic.proofs.arithmetic.put_shifts.Goals as goal

pub returns-in_err-kept : goal.returns-in_err-kept
unfolding shifts_of
returns-in_err-kept g c =
    let p0 = rw c.set_opcodes.ensures.terms at c.in_err-kept.ensures.emits in
    refused_wires _ _ _ _ c.from_residual.ensures (some_first _ p0)

pub returns-in_err-power : goal.returns-in_err-power
unfolding shifts_of
returns-in_err-power g c =
    let p0 = rw c.set_opcodes.ensures.terms at c.in_ok-kept.ensures.emits in
    refused_wires _ _ _ _ c.from_residual-in_err-power.ensures (some_then _ p0 (some_first _ c.in_err-power.ensures.emits))

pub returns-in_err-put_left : goal.returns-in_err-put_left
unfolding shifts_of
returns-in_err-put_left g c =
    let p0 = rw c.set_opcodes.ensures.terms at c.in_ok-kept.ensures.emits in
    refused_wires _ _ _ _ c.from_residual-in_err-put_left.ensures (some_then _ p0 (some_then _ c.in_ok-power.ensures.emits
    (some_first _ c.in_err-put_left.ensures.emits)))

pub returns-in_err-put_right : goal.returns-in_err-put_right
unfolding shifts_of
returns-in_err-put_right g c =
    let p0 = rw c.set_opcodes.ensures.terms at c.in_ok-kept.ensures.emits in
    refused_wires _ _ _ _ c.from_residual-in_err-put_right.ensures (some_then _ p0 (some_then _ c.in_ok-power.ensures.emits
    (some_then _ c.in_ok-put_left.ensures.emits (some_first _ c.in_err-put_right.ensures.emits))))

pub returns-clause-emits : goal.returns-clause-emits
unfolding shifts_of
returns-clause-emits g c =
    let p0 = rw c.set_opcodes.ensures.terms at c.in_ok-kept.ensures.emits in
    emits_as (omega arith) (omega arith) (all_then _ p0 (all_then _ c.in_ok-power.ensures.emits (all_then _ c.in_ok-put_left.ensures.emits
    (all_last _ c.in_ok-put_right.ensures.emits refl))))
