use Rattle.tv_bits.specs.Bits.{bits_of}
use Rattle.tv_core.proofs.Common.{refused_wires, all_then, some_then, some_first, all_last, refl, emits_as, arith}
use Rattle.tv_inputs.specs.Operand.{operand_of}
use Rattle.tv_inputs.proofs.operand.put_operand.Goals as goal

pub returns-in_err-word : goal.returns-in_err-word
unfolding operand_of
returns-in_err-word g c = refused_wires _ _ _ _ c.from_residual.ensures (some_first _ c.in_err-word.ensures.emits)

pub returns-in_err-bits : goal.returns-in_err-bits
unfolding operand_of bits_of
returns-in_err-bits g c =
    refused_wires _ _ _ _ c.from_residual-in_err-bits.ensures
    (some_then _ c.in_ok-word.ensures.emits (some_first _ (some_first _ c.in_err-bits.ensures.emits)))

pub returns-in_err-put_number : goal.returns-in_err-put_number
unfolding operand_of bits_of
returns-in_err-put_number g c =
    refused_wires _ _ _ _ c.from_residual-in_err-put_number.ensures
    (some_then _ c.in_ok-word.ensures.emits (some_first _ (some_then _ c.in_ok-bits.ensures.emits (some_first _ c.in_err-put_number.ensures.emits))))

pub returns-clause-emits : goal.returns-clause-emits
unfolding operand_of bits_of
returns-clause-emits g c =
    let bits = all_then _ c.in_ok-bits.ensures.emits (all_last _ c.in_ok-put_number.ensures.emits refl) in
    emits_as (omega arith) (omega arith) (all_then _ c.in_ok-word.ensures.emits (all_last _ bits refl))
