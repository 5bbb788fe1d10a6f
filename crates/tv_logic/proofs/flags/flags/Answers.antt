use Rattle.tv_core.proofs.Common.{all_then, some_then, some_first, refused_wires, all_last, refl}
use Rattle.tv_logic.specs.Flags.{logic_flags_of}
use Rattle.tv_logic.proofs.flags.flags.Goals as goal

pub returns-in_err-and_zero : goal.returns-in_err-and_zero
unfolding logic_flags_of
returns-in_err-and_zero g c =
    refused_wires _ _ _ _ c.from_residual.ensures (some_first _ c.in_err-and_zero.ensures.emits)

pub returns-in_err-xor_zero : goal.returns-in_err-xor_zero
unfolding logic_flags_of
returns-in_err-xor_zero g c =
    refused_wires _ _ _ _ c.from_residual-in_err-xor_zero.ensures
    (some_then _ c.in_ok-and_zero.ensures.emits (some_first _ c.in_err-xor_zero.ensures.emits))

pub returns-in_err-not_zero : goal.returns-in_err-not_zero
unfolding logic_flags_of
returns-in_err-not_zero g c =
    refused_wires _ _ _ _ c.from_residual-in_err-not_zero.ensures (some_then _ c.in_ok-and_zero.ensures.emits (some_then _ c.in_ok-xor_zero.ensures.emits
    (some_first _ c.in_err-not_zero.ensures.emits)))

pub returns-in_err-or_zero : goal.returns-in_err-or_zero
unfolding logic_flags_of
returns-in_err-or_zero g c =
    let ors = rw (c.set_wire.ensures.terms, c.set_wire-2.ensures.terms) at c.in_err-or_zero.ensures.emits in
    refused_wires _ _ _ _ c.from_residual-in_err-or_zero.ensures (some_then _ c.in_ok-and_zero.ensures.emits (some_then _ c.in_ok-xor_zero.ensures.emits
    (some_then _ c.in_ok-not_zero.ensures.emits (some_first _ ors))))

pub returns-clause-emits : goal.returns-clause-emits
unfolding logic_flags_of
returns-clause-emits g c =
    let ors = rw (c.set_wire.ensures.terms, c.set_wire-2.ensures.terms) at c.in_ok-or_zero.ensures.emits in
    all_then _ c.in_ok-and_zero.ensures.emits (all_then _ c.in_ok-xor_zero.ensures.emits (all_then _ c.in_ok-not_zero.ensures.emits (all_last _ ors refl)))
