-- The laws of the next program counter.
use Rattle.tv_core.proofs.Common.{◌≡◌, ℕ, ◌+◌, ◌-◌, ◌*◌, ◌/◌, ◌%◌, ◌^◌, ◌<◌, ◌==◌, not, Bool, true, false, if◌then◌else◌, List, [], ◌∷◌, ◌++◌, length, refl}
use Rattle.tv_core.proofs.Common.{◌∙◌, ap, ap₂, subst, arith, slice_index, value-wire, value-append, value-cons, value-below, InField-cons, InField-none, fresh}
use Rattle.tv_core.proofs.Common.{put, pure, ◌>>=◌, wire, Combination, value, InField, terms_in, for_widths, IsWidth, flag_of}
use Rattle.std.proofs.Common.{length-append}
use Rattle.tv_bits.proofs.BitNumbers.{HasBits-below}
use Rattle.tv_bits.proofs.TimesLaws.{residue_below}
use Rattle.tv_bits.specs.Times.{times_of}
use Rattle.tv_core.specs.Inverse.{inverse_of}
use Rattle.tv_core.specs.declared.field.TheConstants.{P}
use Rattle.tv_inputs.proofs.Settled.{Settles, if_zero_then, times_then, settles_sum}
use Rattle.tv_isa.specs.Opcodes.{chosen, place_of}
use Rattle.tv_isa.specs.declared.instr.Instr.{Instr}
use Rattle.tv_numbers.specs.Numbers.{operand_word}
use Rattle.tv_numbers.specs.Tables.{target, pcs}
use Rattle.tv_numbers.specs.Views.{View}
use Rattle.tv_word.proofs.FlagLaws.{flag_small}
use Rattle.tv_inputs.proofs.OpcodeLaws.{opcode_wire_is}
use Rattle.tv_numbers.proofs.Cases.{chosen_in}
use Rattle.tv_results.proofs.PcLaws.{distance, wrap_of, after_of, flag_jump, jump_gate, target_by, jump_number, pc_number}
use Rattle.tv_inputs.proofs.FieldNumbers.{flag_in_field, either}
use Rattle.tv_inputs.proofs.TapeGates.{value-two, value-three, value-four}
use Rattle.tv_inputs.proofs.UpperLaws.{upper_is, length-upper}
use Rattle.tv_inputs.specs.Accumulation.{closed_of}
use Rattle.tv_inputs.specs.Operand.{upper_of}
use Rattle.tv_results.specs.Pc.{from_last, goes_in, after_in, jump_in, pc_of, pc_values, HasPc, PcIsSound, PcIsComplete, PcSizes, PcCosts}
use Rattle.tv_inputs.specs.Tapes.{if_zero_of}
use Rattle.tv_inputs.specs.declared.records.OperandWires.{OperandWires}
use Rattle.tv_inputs.specs.declared.records.StateWires.{StateWires}
use Rattle.tv_bits.specs.Zero.{zero_cases_of}

-- ---- the combinations' values
folded_four : (k l m n : ℕ) → (k + (l + (m + n % P) % P) % P) % P ≡ (k + l + m + n % P) % P
folded_four k l m n = omega arith

module _ (w : ℕ) (width : IsWidth w) (z : List ℕ) (state : StateWires) (op : ℕ) (a : OperandWires) (v : View) (i : Instr)
    (has : HasPc w z (record { state = state; op = op; operand = a }) v i) where
  abbrev at : ℕ
  at = operand_word v i

  from_is : value (from_last w state.pc) z ≡ distance w v.pc
  from_is = value-two z (P - (2 ^ w - w / 4)) 1 0 state.pc ∙ ap₂ (λ m n. ((P - (2 ^ w - w / 4)) * m + 1 * n) % P) has.assigns.one has.pc
      ∙ turned (P - (2 ^ w - w / 4)) v.pc
    where
      turned : (c pc : ℕ) → (c * 1 + 1 * pc) % P ≡ (pc + c) % P
      turned c pc = omega arith

  answers_is : slice_index z (op + place_of 31) ≡ flag_of (i.op == 31)
  answers_is = opcode_wire_is z op i.op 31 has.opcode (omega arith) refl

  goes_is : value (goes_in op) z ≡ flag_of (not (i.op == 31))
  goes_is = value-two z 1 (P - 1) 0 (op + place_of 31) ∙ ap₂ (λ m n. (1 * m + (P - 1) * n) % P) has.assigns.one answers_is ∙ unless (i.op == 31)
    where
      unless : (b : Bool) → (1 * 1 + (P - 1) * flag_of b) % P ≡ flag_of (not b)
      unless true = refl
      unless false = refl

  by_flag_is : value ((1, op + place_of 21) ∷ (P - 1, op + place_of 22) ∷ []) z ≡ (flag_of (i.op == 21) + (P - flag_of (i.op == 22))) % P
  by_flag_is = value-two z 1 (P - 1) (op + place_of 21) (op + place_of 22)
      ∙ ap₂ (λ m n. (1 * m + (P - 1) * n) % P) (opcode_wire_is z op i.op 21 has.opcode (omega arith) refl)
      (opcode_wire_is z op i.op 22 has.opcode (omega arith) refl) ∙ by_bits (i.op == 21) (i.op == 22)
    where
      by_bits : (b c : Bool) → (1 * flag_of b + (P - 1) * flag_of c) % P ≡ (flag_of b + (P - flag_of c)) % P
      by_bits true true = refl
      by_bits true false = refl
      by_bits false true = refl
      by_bits false false = refl

  gate_is : (jumps : ℕ) → slice_index z jumps ≡ flag_jump i.op v.flag
      → value ((1, op + place_of 20) ∷ (1, op + place_of 22) ∷ (1, jumps) ∷ []) z ≡ jump_gate i.op v.flag
  gate_is jumps is = value-three z 1 1 1 (op + place_of 20) (op + place_of 22) jumps
      ∙ ap₂ (λ m n. (1 * m + 1 * n + 1 * slice_index z jumps) % P) (opcode_wire_is z op i.op 20 has.opcode (omega arith) refl)
      (opcode_wire_is z op i.op 22 has.opcode (omega arith) refl)
      ∙ ap (λ n. (1 * flag_of (i.op == 20) + 1 * flag_of (i.op == 22) + 1 * n) % P) is
      ∙ ones (flag_of (i.op == 20)) (flag_of (i.op == 22)) (flag_jump i.op v.flag)
    where
      ones : (l m n : ℕ) → (1 * l + 1 * m + 1 * n) % P ≡ (l + m + n) % P
      ones l m n = omega arith

  after_value : (wraps : ℕ) → slice_index z wraps ≡ wrap_of w v.pc i.op → value (after_in w state.pc (op + place_of 31) wraps) z ≡ after_of w v.pc i.op
  after_value wraps is = value-four z (w / 4) 1 (P - w / 4) (P - 2 ^ w) 0 state.pc (op + place_of 31) wraps
      ∙ ap₂ (λ m n. (w / 4 * m + 1 * n + (P - w / 4) * slice_index z (op + place_of 31) + (P - 2 ^ w) * slice_index z wraps) % P) has.assigns.one has.pc
      ∙ ap₂ (λ m n. (w / 4 * 1 + 1 * v.pc + (P - w / 4) * m + (P - 2 ^ w) * n) % P) answers_is is
      ∙ ones (w / 4) v.pc ((P - w / 4) * flag_of (i.op == 31)) ((P - 2 ^ w) * wrap_of w v.pc i.op)
    where
      ones : (k l m n : ℕ) → (k * 1 + 1 * l + m + n) % P ≡ (k + l + m + n) % P
      ones k l m n = omega arith

  wrap_small : wrap_of w v.pc i.op < 2
  wrap_small = lower (distance w v.pc == 0) (flag_of (not (i.op == 31))) (flag_small (not (i.op == 31)))
    where
      lower : (b : Bool) (n : ℕ) → n < 2 → (if b then n else 0) < 2
      lower true n h = h
      lower false n h = omega arith

  abbrev target_upper : Combination
  target_upper = upper_of (w / 4) a (w / 16 + 1)

  target_is : value target_upper z ≡ target w at
  target_is =
      upper_is w width z a at (w / 4) (w / 16 + 1) has.assigns has.operand (omega (arith, width)) ∙ target_by w width at (HasBits-below has.operand.bits)

  target_small : target w at < P
  target_small = subst (λ n. n < P) target_is (value-below target_upper z)

  jump_value : (wraps : ℕ) → slice_index z wraps ≡ wrap_of w v.pc i.op
      → value (jump_in w state.pc (op + place_of 31) a wraps) z ≡ (target w at + (P - after_of w v.pc i.op)) % P
  jump_value wraps is =
      let bits = target_upper in
      let tail : value (bits ++ (2 ^ w, wraps) ∷ []) z ≡ (target w at + 2 ^ w * wrap_of w v.pc i.op) % P =
      value-append bits ((2 ^ w, wraps) ∷ []) z ∙ ap₂ (λ m n. (m + n) % P) target_is (value-cons (2 ^ w) wraps [] z ∙ ap (λ n. (2 ^ w * n + 0) % P) is)
      ∙ last (target w at) (2 ^ w * wrap_of w v.pc i.op) in
      value-cons (P - w / 4) 0 ((P - 1, state.pc) ∷ (w / 4, op + place_of 31) ∷ (bits ++ (2 ^ w, wraps) ∷ [])) z
      ∙ ap₂ (λ m n. ((P - w / 4) * m + n) % P) has.assigns.one
      (value-cons (P - 1) state.pc ((w / 4, op + place_of 31) ∷ (bits ++ (2 ^ w, wraps) ∷ [])) z
      ∙ ap₂ (λ m n. ((P - 1) * m + n) % P) has.pc
      (value-cons (w / 4) (op + place_of 31) (bits ++ (2 ^ w, wraps) ∷ []) z ∙ ap₂ (λ m n. (w / 4 * m + n) % P) answers_is tail))
      ∙ first (P - w / 4) _ ∙ folded_four (P - w / 4) ((P - 1) * v.pc) (w / 4 * flag_of (i.op == 31)) (target w at + 2 ^ w * wrap_of w v.pc i.op)
      ∙ jump_number w width v.pc (flag_of (i.op == 31)) (wrap_of w v.pc i.op) (target w at) has.small (flag_small (i.op == 31)) wrap_small target_small
    where
      last : (m n : ℕ) → (m + (n + 0) % P) % P ≡ (m + n) % P
      last m n = omega arith

      first : (c n : ℕ) → (c * 1 + n) % P ≡ (c + n) % P
      first c n = omega arith

  -- ---- the laws
  pc_settled : Settles z (pc_of w state op a) (pc_values w v i) (λ k. slice_index z k ≡ chosen (pcs w v.pc (operand_word v i) v.flag) i.op)
  unfolding pc_of
  pc_settled =
      if_zero_then has.assigns _ (goes_in op) (from_last w state.pc) goes_is from_is (λ wraps is_wraps.
      times_then has.assigns _ (wire state.flag) ((1, op + place_of 21) ∷ (P - 1, op + place_of 22) ∷ [])
      (ap₂ (λ m n. m * n % P) (value-wire has.assigns state.flag ∙ has.flag) by_flag_is) (λ jumps is_jumps.
      settles_sum has.assigns (after_in w state.pc (op + place_of 31) wraps) ((1, op + place_of 20) ∷ (1, op + place_of 22) ∷ (1, jumps) ∷ [])
      (jump_in w state.pc (op + place_of 31) a wraps)
      (ap₂ (λ m n. (m + n) % P) (after_value wraps is_wraps) (ap₂ (λ m n. m * n) (gate_is jumps is_jumps) (jump_value wraps is_wraps))
      ∙ pc_number w width v.pc at v.flag has.small has.aligned (HasBits-below has.operand.bits) has.bit i.op has.opcode.within has.opcode.used)))

pub pc_sound : PcIsSound
pc_sound w width z next state op a v i has = (pc_settled w width z state op a v i has).sound next

pub pc_complete : PcIsComplete
pc_complete w width z next state op a v i has = (pc_settled w width z state op a v i has).complete next

pc_shape : (w : ℕ) (state : StateWires) (op : ℕ) (a : OperandWires) (next : ℕ) → let made = pc_of w state op a next in
    (made.answer ≡ next + 3) × (made.next ≡ next + 4) × (length made.list ≡ 4)
unfolding pc_of if_zero_of zero_cases_of times_of closed_of fresh put pure ◌>>=◌
pc_shape w state op a next = (omega arith, omega arith, refl)

pc_below : (w : ℕ) → IsWidth w → (pc a f k : ℕ) → pc < 2 ^ w → a < 2 ^ w → chosen (pcs w pc a f) k < P
pc_below w width = for_widths (λ w. (pc a f k : ℕ) → pc < 2 ^ w → a < 2 ^ w → chosen (pcs w pc a f) k < P) sixteen thirty_two w width
  where
    sixteen : (pc a f k : ℕ) → pc < 2 ^ 16 → a < 2 ^ 16 → chosen (pcs 16 pc a f) k < P
    sixteen pc a f k h l = chosen_in (λ n. n < P) (pcs 16 pc a f) k (omega arith)
        (omega arith, (either (f == 1) _ _ (omega arith) (omega arith), (either (f == 1) _ _ (omega arith) (omega arith), (omega arith, (omega arith, tt)))))

    thirty_two : (pc a f k : ℕ) → pc < 2 ^ 32 → a < 2 ^ 32 → chosen (pcs 32 pc a f) k < P
    thirty_two pc a f k h l = chosen_in (λ n. n < P) (pcs 32 pc a f) k (omega arith)
        (omega arith, (either (f == 1) _ _ (omega arith) (omega arith), (either (f == 1) _ _ (omega arith) (omega arith), (omega arith, (omega arith, tt)))))

pc_in_field : (w : ℕ) → IsWidth w → (v : View) (i : Instr) → v.pc < 2 ^ w → operand_word v i < 2 ^ w → InField (pc_values w v i)
pc_in_field w width v i small word =
    let from : ℕ = distance w v.pc in
    let goes : ℕ = flag_of (not (i.op == 31)) in
    let v3 : List ℕ = chosen (pcs w v.pc (operand_word v i) v.flag) i.op ∷ [] in
    let v2 : List ℕ = flag_jump i.op v.flag ∷ v3 in
    let v1 : List ℕ = inverse_of from * goes % P ∷ v2 in
    InField-cons (if from == 0 then goes else 0) v1 (either (from == 0) goes 0 (flag_in_field (not (i.op == 31))) (omega arith))
    (InField-cons (inverse_of from * goes % P) v2 (residue_below (inverse_of from * goes))
    (InField-cons (flag_jump i.op v.flag) v3 (residue_below _)
    (InField-cons (chosen (pcs w v.pc (operand_word v i) v.flag) i.op) [] (pc_below w width v.pc (operand_word v i) v.flag i.op small word) InField-none)))

pub pc_sizes : PcSizes
pc_sizes = record {
  answer = λ w state op a next. (pc_shape w state op a next).0;
  end = λ w state op a next. (pc_shape w state op a next).1;
  fills = λ w state op a v i next. (pc_shape w state op a next).1;
  in_field = pc_in_field;
}

pc_terms : (w : ℕ) → IsWidth w → (state : StateWires) (op : ℕ) (a : OperandWires) (next : ℕ) → terms_in (pc_of w state op a next).list ≡ w / 16 + 27
unfolding pc_of if_zero_of zero_cases_of times_of closed_of fresh put pure ◌>>=◌
pc_terms w width state op a next =
    let upper = upper_of (w / 4) a (w / 16 + 1) in
    omega (arith, length-append upper ((2 ^ w, next) ∷ []), length-upper (w / 4) a (w / 16 + 1))

pub pc_costs : PcCosts
pc_costs = record { constraints = λ w state op a next. (pc_shape w state op a next).2; terms = pc_terms }
