-- The operand is put by normal combinations.
use Rattle.tv_core.proofs.Common.{ℕ, ◌-◌, ◌<◌, ◌≤◌, [], ◌∷◌, arith, pure, ◌>>=◌, wire, top, Combination, AreNormal, width_short, IsWidth}
use Rattle.tv_bits.proofs.NormalLaws.{wire_normal, bits_of_normal}
use Rattle.tv_bits.specs.Bits.{bits_of}
use Rattle.tv_core.proofs.NormalCircuits.{normal_both}
use Rattle.tv_core.specs.declared.field.TheConstants.{P}
use Rattle.tv_inputs.proofs.NormalAccumulation.{accumulated_normal}
use Rattle.tv_inputs.specs.Accumulation.{accumulated_of}
use Rattle.tv_inputs.specs.Operand.{operand_of}

pub operand_normal : (w : ℕ) → IsWidth w → (imm tail register next : ℕ) → tail < register → register < next
    → AreNormal (operand_of w imm tail register next).list
unfolding operand_of pure ◌>>=◌
operand_normal w width imm tail register next before below =
    let short = width_short w width in
    let difference : Combination = (1, tail) ∷ (P - 1, register) ∷ [] in
    let word = accumulated_of (wire register) (wire imm) difference next in
    let within : top (wire register) ≤ next = omega arith in
    let put = accumulated_normal (wire register) (wire imm) difference next (wire_normal 0 register (omega arith)) within (wire_normal 0 imm (omega arith))
    (search arith) in
    let bits = bits_of_normal (wire word.answer) w word.next (omega arith) (wire_normal 0 word.answer (omega arith)) in
    normal_both word.list _ put (normal_both (bits_of (wire word.answer) w word.next).list [] bits tt)
