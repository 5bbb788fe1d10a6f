-- What a step does to the tapes is put by normal combinations.
use Rattle.tv_core.proofs.Common.{ℕ, ◌+◌, ◌-◌, ◌^◌, ◌<◌, ◌≤◌, if◌then◌else◌, List, [], ◌∷◌, ◌++◌, inl, inr, refl, sym, subst, arith, cases_eq, eq-eqb, ne_eqb}
use Rattle.tv_core.proofs.Common.{fresh, put, pure, ◌>>=◌, wire, top, Combination, Constraint, IsNormal, AreNormal, IsWidth}
use Rattle.tv_bits.proofs.NormalLaws.{wire_normal, times_normal}
use Rattle.tv_bits.specs.Times.{times_of}
use Rattle.tv_core.proofs.NormalCircuits.{normal_append, normal_both}
use Rattle.tv_core.specs.declared.field.TheConstants.{P}
use Rattle.tv_isa.specs.declared.opcode.TheConstants.{READ}
use Rattle.tv_inputs.proofs.NormalOpcodes.{opcode_sum_normal, opcodes_top}
use Rattle.tv_inputs.proofs.UpperLaws.{upper_normal}
use Rattle.tv_inputs.specs.OpcodeSums.{opcode_sum}
use Rattle.tv_inputs.specs.Operand.{upper_of}
use Rattle.tv_inputs.specs.Tapes.{if_zero_of, left_in, primary_of, auxiliary_of, tapes_of}
use Rattle.tv_inputs.specs.declared.records.OperandWires.{OperandWires}
use Rattle.tv_inputs.specs.declared.records.StateWires.{StateWires}
use Rattle.tv_bits.specs.Zero.{zero_cases_of}

-- ---- a number where another is 0
pub if_zero_normal : (g x : Combination) (next : ℕ) → IsNormal g → top g ≤ next → IsNormal x → AreNormal (if_zero_of g x next).list
unfolding if_zero_of zero_cases_of fresh put pure ◌>>=◌
if_zero_normal g x next n below nx =
    let rest = normal_append 0 next g ((P - 1, next) ∷ []) n below (omega arith) (omega arith, omega arith, omega arith, tt) in
    (record { a = nx; b = search arith; c = rest }, (record { a = nx; b = search arith; c = tt }, tt))

-- ---- the tapes
left_normal : (n before : ℕ) → n < 2 ^ 29 → 0 < before → IsNormal (left_in n before)
left_normal n before short some = elim (cases_eq n 0) [
  | inl none ↦ subst (λ b. IsNormal (if b then (P - 1, before) ∷ [] else (n, 0) ∷ (P - 1, before) ∷ [])) (sym (eq-eqb n 0 none)) (search arith)
  | inr more ↦ subst (λ b. IsNormal (if b then (P - 1, before) ∷ [] else (n, 0) ∷ (P - 1, before) ∷ [])) (sym (ne_eqb n 0 more)) (search arith)
]

pub primary_normal : (n before reads aux next : ℕ) → n < 2 ^ 29 → 0 < before → before < reads → reads < aux → aux < next
    → AreNormal (primary_of n before reads aux next).list
unfolding primary_of zero_cases_of fresh put pure ◌>>=◌
primary_normal n before reads aux next short some h k l =
    let left = left_normal n before short some in
    (record { a = left; b = search arith; c = search arith }, (record { a = left; b = search arith; c = tt }, tt))

pub auxiliary_normal : (taken aux before next : ℕ) → 0 < before → before < next → AreNormal (auxiliary_of taken aux before next).list
unfolding auxiliary_of fresh put pure ◌>>=◌
auxiliary_normal taken aux before next some h =
    (record { a = search arith; b = search arith; c = search arith }, (record { a = search arith; b = search arith; c = tt }, tt))

pub tapes_normal : (w : ℕ) → IsWidth w → (n : ℕ) (state : StateWires) (op : ℕ) (a : OperandWires) (next : ℕ) → n < 2 ^ 29 → 0 < state.taken_of_primary
    → state.taken_of_primary < next
    → 0 < state.aux_ended → state.aux_ended < next → op + 29 ≤ next → a.word < a.bits.first → AreNormal (tapes_of w n state op a next).list
unfolding tapes_of if_zero_of zero_cases_of times_of primary_of auxiliary_of fresh put pure ◌>>=◌
tapes_normal w width n state op a next short some within ended_some ended_within row rise =
    let read = opcode_sum op (READ ∷ []) in
    let upper = upper_of 1 a 1 in
    let read_is = opcode_sum_normal op (READ ∷ []) refl in
    let read_top : top read ≤ next = omega (arith, opcodes_top 1 op 29 (READ ∷ []) refl, row) in
    let upper_is = upper_normal 0 1 a 1 (omega arith) (λ e. omega arith) (omega arith) rise in
    let product = times_normal (wire next) (wire a.bits.first) (next + 1 + 1) (wire_normal 0 next (omega arith)) (wire_normal 0 a.bits.first (omega arith)) in
    let first = if_zero_normal read upper next read_is read_top upper_is in
    let primary = primary_normal n state.taken_of_primary next (next + 1 + 1) (next + 1 + 1 + 1) short some within (omega arith) (omega arith) in
    let auxiliary = auxiliary_normal (next + 1 + 1 + 1) (next + 1 + 1) state.aux_ended (next + 1 + 1 + 1 + 1 + 1) ended_some (omega arith) in
    let list2 : List Constraint = (times_of (wire next) (wire a.bits.first) (next + 1 + 1)).list in
    let list3 : List Constraint = (primary_of n state.taken_of_primary next (next + 1 + 1) (next + 1 + 1 + 1)).list in
    let list4 : List Constraint = (auxiliary_of (next + 1 + 1 + 1) (next + 1 + 1) state.aux_ended (next + 1 + 1 + 1 + 1 + 1)).list in
    normal_both (if_zero_of read upper next).list (list2 ++ (list3 ++ list4)) first
    (normal_both list2 (list3 ++ list4) product (normal_both list3 list4 primary auxiliary))
