-- The laws of the flag after a step.
use Rattle.tv_core.proofs.Common.{◌≡◌, ℕ, ◌+◌, ◌-◌, ◌*◌, ◌%◌, ◌^◌, ◌<◌, ◌==◌, Bool, true, false, if◌then◌else◌, List, [], ◌∷◌, ◌++◌, length, inl, inr, refl}
use Rattle.tv_core.proofs.Common.{sym, ◌∙◌, ap, ap₂, arith, mod-lt, bit_at, slice_index, cases_eq, ne_eqb, value-wire, value-append, value-cons, wire-below}
use Rattle.tv_core.proofs.Common.{InField-cons, InField-none, fresh, put, pure, ◌>>=◌, wire, value, InField, terms_in, IsWidth, flag_of}
use Rattle.tv_bits.specs.Times.{times_of}
use Rattle.tv_bits.specs.declared.bit_wires.Bits.{Bits}
use Rattle.tv_core.specs.declared.field.TheConstants.{P}
use Rattle.tv_inputs.proofs.Settled.{Settles, times_then, settles_sum}
use Rattle.tv_isa.specs.Opcodes.{among, chosen, keeper_ops}
use Rattle.tv_isa.specs.declared.instr.Instr.{Instr}
use Rattle.tv_numbers.specs.Numbers.{operand_word, other_word, takes_primary, found}
use Rattle.tv_numbers.specs.Tables.{flags}
use Rattle.tv_numbers.proofs.Cases.{chosen_in}
use Rattle.tv_numbers.specs.Views.{View}
use Rattle.tv_word.proofs.FlagLaws.{flag_small}
use Rattle.tv_inputs.proofs.FieldNumbers.{flag_in_field, either}
use Rattle.tv_parts.proofs.FlagLaws.{raised_ops, flag_sum, FlagCase, flag_number}
use Rattle.tv_inputs.proofs.OpcodeLaws.{opcode_sum_sound}
use Rattle.tv_inputs.proofs.TapeGates.{value-two}
use Rattle.tv_inputs.proofs.TapeLaws.{among_one, no_primary, no_auxiliary, one_tape}
use Rattle.tv_inputs.specs.Accumulation.{closed_of}
use Rattle.tv_parts.specs.Flag.{tested_in, next_flag_of, HasFlag, flag_in, flag_values, FlagIsSound, FlagIsComplete, FlagSizes, FlagCosts}
use Rattle.tv_inputs.specs.Inputs.{input_of}
use Rattle.tv_inputs.specs.OpcodeSums.{opcode_sum}
use Rattle.tv_inputs.specs.Tapes.{took}
use Rattle.tv_inputs.specs.declared.records.StateWires.{StateWires}
use Rattle.tv_inputs.specs.declared.records.TapeWires.{TapeWires}

-- ---- the combinations' values
-- a shift's bit in place of the test, as a product with its opcode's wire
bit_product : (b : Bool) (f bit : ℕ) → f < P → bit < 2 → flag_of b * (((P - 1) * f + 1 * bit) % P) % P ≡ (if b then (bit + (P - f)) % P else 0)
bit_product true f bit h k = omega arith
bit_product false f bit h k = omega arith

sum_of : (b g f t u l r k : ℕ) (p : Bool) → b < 2 ^ 29 → f < P → g < 2 → u < 2 → l < P → r < P → k < 2 → t ≡ (if p then b + 1 else b)
    → ((1 * b + (g + (1 * f + ((P - 1) * t + ((P - 1) * u + (1 * l + (1 * r + 0) % P) % P) % P) % P) % P) % P) % P + k) % P
    ≡ (g + f + (P - flag_of p) + (P - u) + l + r + k) % P
sum_of b g f t u l r k true hb hf hg hu hl hr hk e = omega arith
sum_of b g f t u l r k false hb hf hg hu hl hr hk e = omega arith

bit_below : (x i : ℕ) → bit_at x i < 2
bit_below x i = omega arith

module _ (w : ℕ) (width : IsWidth w) (z : List ℕ) (n : ℕ) (state : StateWires) (op : ℕ) (x : Bits) (f : ℕ) (t : TapeWires) (v : View) (i : Instr)
    (low high result y : ℕ)
    (has : HasFlag w z (record { state = state; op = op; x = x; f = f; tapes = t }) (input_of n v i low) high
    (record { word = result; tested = y })) where
  abbrev primary : Bool
  primary = takes_primary v i n

  case_of : FlagCase w width (other_word v i) (operand_word v i) low high result y (slice_index z f) v.flag primary
      (took z t) has.other has.operand has.bit i.op
  case_of = record {
    reads = λ e. (no_primary v i n e, no_auxiliary v i (took z t) has.tapes.asked e);
    apart = one_tape v i n (took z t) has.tapes.asked;
    test = has.test;
    tested = has.tested;
    divides = has.divides;
    result_is = has.result_word;
    halves = has.halves;
  }

  -- the gate of a shift times its bit less the test
  shift_value : (k bit at : ℕ) → value (opcode_sum op (k ∷ [])) z ≡ flag_of (i.op == k) → bit < 2 → (i.op ≡ k → slice_index z at ≡ bit)
      → value (opcode_sum op (k ∷ [])) z * value ((P - 1, f) ∷ (1, at) ∷ []) z % P ≡ (if i.op == k then (bit + (P - slice_index z f)) % P else 0)
  shift_value k bit at gate small is = elim (cases_eq i.op k) [
    | inl same ↦ ap₂ (λ m j. m * j % P) gate (value-two z (P - 1) 1 f at ∙ ap (λ b. ((P - 1) * slice_index z f + 1 * b) % P) (is same))
        ∙ bit_product (i.op == k) (slice_index z f) bit (wire-below has.assigns f) small
    | inr other ↦ ap (λ b. b * value ((P - 1, f) ∷ (1, at) ∷ []) z % P) (gate ∙ ap flag_of (ne_eqb i.op k other)) ∙ none _
        ∙ sym (ap (λ b. if b then (bit + (P - slice_index z f)) % P else 0) (ne_eqb i.op k other))
  ]
    where
      none : (m : ℕ) → 0 * m % P ≡ 0
      none m = omega arith

  left_is : value (opcode_sum op (11 ∷ [])) z * value ((P - 1, f) ∷ (1, x.first + (w - 1)) ∷ []) z % P
      ≡ (if i.op == 11 then (bit_at (other_word v i) (w - 1) + (P - slice_index z f)) % P else 0)
  left_is = shift_value 11 (bit_at (other_word v i) (w - 1)) (x.first + (w - 1))
      (opcode_sum_sound z op i.op (11 ∷ []) has.opcode refl ∙ ap flag_of (among_one 11 i.op)) (bit_below (other_word v i) (w - 1))
      (λ e. has.top (ap (among (11 ∷ 12 ∷ [])) e))

  right_is : value (opcode_sum op (12 ∷ [])) z * value ((P - 1, f) ∷ (1, x.first) ∷ []) z % P
      ≡ (if i.op == 12 then (bit_at (other_word v i) 0 + (P - slice_index z f)) % P else 0)
  right_is = shift_value 12 (bit_at (other_word v i) 0) x.first (opcode_sum_sound z op i.op (12 ∷ []) has.opcode refl ∙ ap flag_of (among_one 12 i.op))
      (bit_below (other_word v i) 0) (λ e. has.lowest (ap (among (11 ∷ 12 ∷ [])) e))

  -- the sum of the last constraint
  flag_value : (left right : ℕ) → slice_index z left ≡ (if i.op == 11 then (bit_at (other_word v i) (w - 1) + (P - slice_index z f)) % P else 0)
      → slice_index z right ≡ (if i.op == 12 then (bit_at (other_word v i) 0 + (P - slice_index z f)) % P else 0)
      → (value (tested_in state.taken_of_primary op f t left right) z + value (opcode_sum op keeper_ops) z * value (wire state.flag) z) % P
      ≡ flag_in w n v i low (took z t)
  flag_value left right is_left is_right =
      let before = state.taken_of_primary in
      let rest = (1, f) ∷ (P - 1, t.taken) ∷ (P - 1, t.takes) ∷ (1, left) ∷ (1, right) ∷ [] in
      let kept = opcode_sum_sound z op i.op keeper_ops has.opcode refl in
      let raises = opcode_sum_sound z op i.op raised_ops has.opcode refl in
      let rest_is = value-cons 1 f ((P - 1, t.taken) ∷ (P - 1, t.takes) ∷ (1, left) ∷ (1, right) ∷ []) z
      ∙ ap (λ m. (1 * slice_index z f + m) % P) (value-cons (P - 1) t.taken ((P - 1, t.takes) ∷ (1, left) ∷ (1, right) ∷ []) z
      ∙ ap (λ m. ((P - 1) * slice_index z t.taken + m) % P) (value-cons (P - 1) t.takes ((1, left) ∷ (1, right) ∷ []) z
      ∙ ap₂ (λ u m. ((P - 1) * u + m) % P) has.tapes.takes
      (value-cons 1 left ((1, right) ∷ []) z ∙ ap (λ m. (1 * slice_index z left + m) % P) (value-cons 1 right [] z)))) in
      let sum = value-cons 1 before (opcode_sum op raised_ops ++ rest) z
      ∙ ap₂ (λ b m. (1 * b + m) % P) has.before (value-append (opcode_sum op raised_ops) rest z ∙ ap₂ (λ g m. (g + m) % P) raises rest_is) in
      ap₂ (λ m k. (m + k) % P) sum (ap₂ (λ m k. m * k) kept (value-wire has.assigns state.flag ∙ has.flag))
      ∙ sum_of v.taken (flag_of (among raised_ops i.op)) (slice_index z f) (slice_index z t.taken) (flag_of (took z t)) (slice_index z left)
      (slice_index z right) (flag_of (among keeper_ops i.op) * v.flag) primary
      (omega (arith, has.within, has.short)) (wire-below has.assigns f) (flag_small (among raised_ops i.op)) (flag_small (took z t))
      (wire-below has.assigns left) (wire-below has.assigns right) (product_small (among keeper_ops i.op)) has.tapes.taken
      ∙ ap₂ (λ l r. flag_sum i.op (slice_index z f) (flag_of primary) (flag_of (took z t)) l r v.flag) is_left is_right
      ∙ flag_number w width (other_word v i) (operand_word v i) low high result y (slice_index z f) v.flag primary
      (took z t) has.other has.operand has.bit i.op has.opcode.within has.opcode.used case_of
    where
      product_small : (b : Bool) → flag_of b * v.flag < 2
      product_small true = omega (arith, has.bit)
      product_small false = omega arith

  -- ---- the laws
  flag_settled : Settles z (next_flag_of w state op x f t) (flag_values w (input_of n v i low) (took z t) (slice_index z f))
      (λ k. slice_index z k ≡ flag_in w n v i low (took z t))
  unfolding next_flag_of
  flag_settled =
      times_then has.assigns _ (opcode_sum op (11 ∷ [])) ((P - 1, f) ∷ (1, x.first + (w - 1)) ∷ []) left_is (λ left is_left.
      times_then has.assigns _ (opcode_sum op (12 ∷ [])) ((P - 1, f) ∷ (1, x.first) ∷ []) right_is (λ right is_right.
      settles_sum has.assigns (tested_in state.taken_of_primary op f t left right) (opcode_sum op keeper_ops) (wire state.flag)
      (flag_value left right is_left is_right)))

-- the table's flag doesn't depend on the data word
pub flag_sound : FlagIsSound
flag_sound w width z next n state op x f t v i low high result y o has = (flag_settled w width z n state op x f t v i low high result y has).sound next

pub flag_complete : FlagIsComplete
flag_complete w width z next n state op x f t v i low high result y o has = (flag_settled w width z n state op x f t v i low high result y has).complete next

flag_shape : (w : ℕ) (state : StateWires) (op : ℕ) (x : Bits) (f : ℕ) (t : TapeWires) (next : ℕ) → let made = next_flag_of w state op x f t next in
    (made.answer ≡ next + 2) × (made.next ≡ next + 3) × (length made.list ≡ 3) × (terms_in made.list ≡ 35)
unfolding next_flag_of times_of closed_of fresh put pure ◌>>=◌
flag_shape w state op x f t next = (omega arith, omega arith, refl, refl)

pub flag_costs : FlagCosts
flag_costs = record {
  constraints = λ w state op x f t next. (flag_shape w state op x f t next).2;
  terms = λ w state op x f t next. (flag_shape w state op x f t next).3;
}

-- ---- sizes
flags_below : (w x a : ℕ) (found : Bool) (flag k : ℕ) → flag < 2 → chosen (flags w x a found flag) k < P
flags_below w x a found flag k h =
    let below : flag < P = omega arith in
    chosen_in (λ n. n < P) (flags w x a found flag) k (omega arith) (search (flag_in_field, below))

flag_values_below : (w n : ℕ) (v : View) (i : Instr) (o : ℕ) (takes : Bool) (f : ℕ) → v.flag < 2 → InField (flag_values w (input_of n v i o) takes f)
flag_values_below w n v i o takes f h =
    let v2 : List ℕ = flag_in w n v i o takes ∷ [] in
    let v1 : List ℕ = (if i.op == 12 then (bit_at (other_word v i) 0 + (P - f)) % P else 0) ∷ v2 in
    InField-cons (if i.op == 11 then (bit_at (other_word v i) (w - 1) + (P - f)) % P else 0) v1 (either (i.op == 11) _ 0 (mod-lt _ (omega arith)) (omega arith))
    (InField-cons (if i.op == 12 then (bit_at (other_word v i) 0 + (P - f)) % P else 0) v2 (either (i.op == 12) _ 0 (mod-lt _ (omega arith)) (omega arith))
    (InField-cons (flag_in w n v i o takes) [] (flags_below w (other_word v i) (operand_word v i) (found w n v i o takes) v.flag i.op h) InField-none))

pub flag_sizes : FlagSizes
flag_sizes = record {
  answer = λ w state op x f t next. (flag_shape w state op x f t next).0;
  end = λ w state op x f t next. (flag_shape w state op x f t next).1;
  fills = λ w state op x f t n v i o takes g next. (flag_shape w state op x f t next).1;
  in_field = flag_values_below;
}
