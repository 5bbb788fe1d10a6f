-- The result of a step, and the sign of its test, are put by normal combinations.
use Rattle.tv_core.proofs.Common.{ℕ, ◌+◌, ◌-◌, ◌^◌, ◌<◌, ◌≤◌, [], ◌∷◌, ◌++◌, refl, arith, fresh, put, pure, ◌>>=◌, wire, top, Combination, IsNormal}
use Rattle.tv_core.proofs.Common.{IsNormalFrom, AreNormal, width_short, for_widths, IsWidth}
use Rattle.tv_bits.proofs.NormalLaws.{wire_normal, rise_normal, times_normal}
use Rattle.tv_bits.specs.Times.{times_of}
use Rattle.tv_core.proofs.NormalCircuits.{normal_append, normal_both}
use Rattle.tv_core.proofs.NormalLaws.{IsNormalFrom-lower}
use Rattle.tv_core.specs.declared.field.TheConstants.{P}
use Rattle.tv_isa.specs.Opcodes.{place_of}
use Rattle.tv_isa.specs.declared.opcode.TheConstants.{AND, OR, XOR, NOT, ADD, SUB, MULL, UMULH, SMULH, UDIV, UMOD, SHL, SHR, CMPE, CMPA, CMPAE, CMPG, CMPGE}
use Rattle.tv_isa.specs.declared.opcode.TheConstants.{MOV, CMOV, LOAD_B}
use Rattle.tv_inputs.proofs.NormalAccumulation.{accumulated_normal}
use Rattle.tv_inputs.proofs.NormalOpcodes.{opcodes_normal, opcodes_then, opcode_sum_normal}
use Rattle.tv_results.proofs.ResultFills.{result_answer, result_next}
use Rattle.tv_inputs.proofs.UpperLaws.{upper_normal, upper_top}
use Rattle.tv_inputs.specs.OpcodeSums.{opcode_terms, opcode_sum}
use Rattle.tv_inputs.specs.Operand.{upper_of}
use Rattle.tv_inputs.specs.Results.{low_ops, high_ops, parts_in, signs_in, result_of, tested_of, results_of, sign_of}
use Rattle.tv_inputs.specs.TestNumbers.{zero_ops, carry_ops, place_bits}
use Rattle.tv_inputs.specs.declared.records.OperandWires.{OperandWires}
use Rattle.tv_inputs.specs.declared.records.Sources.{Sources}
use Rattle.tv_inputs.specs.declared.records.StateWires.{StateWires}
use Rattle.tv_inputs.specs.declared.records.TapeWires.{TapeWires}

-- ---- combinations
-- a word of the greatest value
largest : (w : ℕ) → IsWidth w → (0 < 2 ^ w - 1) × (2 ^ w - 1 < P)
largest w width = for_widths (λ w. (0 < 2 ^ w - 1) × (2 ^ w - 1 < P)) (omega arith, omega arith) (omega arith, omega arith) w width

-- the sign of the test, in the order of the row
pub sign_normal : (op : ℕ) → IsNormalFrom op (sign_of op)
sign_normal op =
    let y5 : Combination = opcode_terms (P - 1) op (CMPA ∷ CMPAE ∷ CMPG ∷ CMPGE ∷ []) in
    let y4 : Combination = opcode_sum op (UDIV ∷ UMOD ∷ SHL ∷ SHR ∷ CMPE ∷ []) ++ y5 in
    let y3 : Combination = opcode_terms (P - 1) op (MULL ∷ UMULH ∷ SMULH ∷ []) ++ y4 in
    let y2 : Combination = opcode_sum op (SUB ∷ []) ++ y3 in
    let y1 : Combination = opcode_terms (P - 1) op (ADD ∷ []) ++ y2 in
    let last = opcodes_normal (P - 1) op 14 (CMPA ∷ CMPAE ∷ CMPG ∷ CMPGE ∷ []) (omega arith) (omega arith) refl in
    let fifth = opcodes_then 1 op 9 14 (UDIV ∷ UMOD ∷ SHL ∷ SHR ∷ CMPE ∷ []) y5 (omega arith) (omega arith) refl refl (omega arith) last in
    let fourth = opcodes_then (P - 1) op 6 9 (MULL ∷ UMULH ∷ SMULH ∷ []) y4 (omega arith) (omega arith) refl refl (omega arith) fifth in
    let third = opcodes_then 1 op 5 6 (SUB ∷ []) y3 (omega arith) (omega arith) refl refl (omega arith) fourth in
    let second = opcodes_then (P - 1) op 4 5 (ADD ∷ []) y2 (omega arith) (omega arith) refl refl (omega arith) third in
    let first = opcodes_then 1 op 0 4 (AND ∷ OR ∷ XOR ∷ NOT ∷ []) y1 (omega arith) (omega arith) refl refl (omega arith) second in
    IsNormalFrom-lower op (op + 0) (sign_of op) (omega arith) first

pub sign_top : (op : ℕ) → top (sign_of op) ≤ op + 29
sign_top op = omega arith

-- ---- the result
-- the wires that it is made from come in this order
pub record SourcesRise (op next : ℕ) (state : StateWires) (from : Sources) (t : TapeWires) : Type 0 where
  pub taken_some : 0 < state.taken_of_primary
  pub before : state.taken_of_primary < op
  pub row : op + 29 ≤ t.taken
  pub tapes : t.taken < t.takes
  pub made : t.takes < next
  pub halves : from.top < from.high
  pub high : from.high < next

result_normal : (w : ℕ) → IsWidth w → (state : StateWires) (op : ℕ) (a : OperandWires) (from : Sources) (t : TapeWires) (next : ℕ)
    → SourcesRise op next state from t
    → AreNormal (result_of w state op a from t next).list
unfolding result_of times_of fresh put pure ◌>>=◌
result_normal w width state op a from t next rise =
    let before = state.taken_of_primary in
    let taken = rise.row in
    let takes = rise.tapes in
    let made = rise.made in
    let h = rise.before in
    let some = rise.taken_some in
    let low_terms = (P - 1, before) ∷ (opcode_sum op low_ops ++ (1, t.taken) ∷ (1, t.takes) ∷ []) in
    let moved_terms = (P - 1, op + place_of NOT) ∷ opcode_sum op (MOV ∷ CMOV ∷ []) in
    let parts = parts_in w (op + place_of NOT) next (next + 1) (next + 1 + 1) in
    let half : (y : ℕ) → IsNormal (wire y) = λ y. wire_normal 0 y (omega arith) in
    let row = opcodes_then 1 op 0 29 low_ops ((1, t.taken) ∷ (1, t.takes) ∷ []) (omega arith) (omega arith) refl refl (omega arith) (search arith) in
    let low_gate : IsNormal low_terms = (
      omega arith,
      omega arith,
      omega arith,
      IsNormalFrom-lower (before + 1) (op + 0) (opcode_sum op low_ops ++ (
        1,
        t.taken,
      ) ∷ (1, t.takes) ∷ []) (omega arith) row,
    ) in
    let moves = opcodes_normal 1 op 4 (MOV ∷ CMOV ∷ []) (omega arith) (omega arith) refl in
    let moved_gate : IsNormal moved_terms =
    (omega arith, omega arith, omega arith, IsNormalFrom-lower (op + 3 + 1) (op + 4) (opcode_sum op (MOV ∷ CMOV ∷ [])) (omega arith) moves) in
    let most = largest w width in
    let parts_are : IsNormal parts = (omega arith, most.0, most.1, search arith) in
    let low = times_normal low_terms (wire from.low) next low_gate (half from.low) in
    let high = times_normal (opcode_sum op high_ops) (wire from.high) (next + 1) (opcode_sum_normal op high_ops refl) (half from.high) in
    let moved = times_normal moved_terms (wire a.word) (next + 1 + 1) moved_gate (half a.word) in
    let last = accumulated_normal parts (opcode_sum op (LOAD_B ∷ [])) (wire from.byte) (next + 1 + 1 + 1) parts_are (omega arith)
    (opcode_sum_normal op (LOAD_B ∷ []) refl) (half from.byte) in
    (low.0, (high.0, (moved.0, last)))

-- ---- the number that is tested
tested_normal : (w : ℕ) → IsWidth w → (op : ℕ) (a : OperandWires) (from : Sources) (result next : ℕ)
    → a.word < a.bits.first → a.bits.first + w ≤ next → result < next → from.top < from.high
    → from.high < next
    → AreNormal (tested_of w op a from result next).list
unfolding tested_of fresh put pure ◌>>=◌
tested_normal w width op a from result next operand bits below halves high =
    let most = largest w width in
    let short = width_short w width in
    let upper = upper_of (P - 1) a (place_bits w) in
    let upper_is = upper_normal 0 (P - 1) a (place_bits w) (omega (arith, width)) (λ e. omega arith) (omega arith) operand in
    let within : top upper ≤ next = omega (arith, upper_top (P - 1) a (place_bits w) operand, bits, width) in
    let signs : IsNormal (signs_in w from.top from.high next) =
    (omega arith, most.0, most.1, search arith) in
    let shifts = normal_append 0 next upper (wire next) upper_is within (omega arith) (wire_normal next next (omega arith)) in
    let zero_gate = opcode_sum_normal op zero_ops refl in
    let carry_gate = opcode_sum_normal op carry_ops refl in
    let signs_gate = opcode_sum_normal op (SMULH ∷ []) refl in
    let shift_gate = opcode_sum_normal op (SHL ∷ SHR ∷ []) refl in (
      record { a = zero_gate; b = rise_normal result next below; c = tt },
      (
        record { a = carry_gate; b = rise_normal from.high next high; c = tt },
        (record { a = signs_gate; b = signs; c = tt }, (record { a = shift_gate; b = shifts; c = tt }, tt)),
      ),
    )

pub results_normal : (w : ℕ) → IsWidth w → (state : StateWires) (op : ℕ) (a : OperandWires) (from : Sources) (t : TapeWires) (next : ℕ)
    → SourcesRise op next state from t
    → a.word < a.bits.first → a.bits.first + w ≤ next → AreNormal (results_of w state op a from t next).list
unfolding results_of ◌>>=◌ pure
results_normal w width state op a from t next rise operand bits =
    let word = result_of w state op a from t next in
    let answer = result_answer w state op a from t next in
    let end = result_next w state op a from t next in
    let below : word.answer < word.next = omega (arith, answer, end) in
    let within : a.bits.first + w ≤ word.next = omega (arith, bits, end) in
    let high : from.high < word.next = omega (arith, rise.high, end) in
    let tested = tested_normal w width op a from word.answer word.next operand within below rise.halves high in
    normal_both word.list _ (result_normal w width state op a from t next rise) (normal_both (tested_of w op a from word.answer word.next).list [] tested tt)
