-- The laws of a step's result, and of the number that is tested.
use Rattle.tv_core.proofs.Common.{◌≡◌, ℕ, ◌+◌, ◌-◌, ◌*◌, ◌/◌, ◌%◌, ◌^◌, ◌<◌, ◌==◌, Bool, true, false, if◌then◌else◌, List, [], ◌∷◌, ◌++◌, length, inl, inr}
use Rattle.tv_core.proofs.Common.{refl, sym, ◌∙◌, ap, ap₂, arith, mod-lt, bit_at, slice_index, cases_eq, eqb-true, ne_eqb, value-wire, value-append, value-cons}
use Rattle.tv_core.proofs.Common.{value-below, wire-below, InField-cons, InField-none, fresh, put, pure, ◌>>=◌, wire, Combination, value, Meets, InField}
use Rattle.tv_core.proofs.Common.{terms_in, for_widths, IsWidth, flag_of}
use Rattle.std.proofs.Common.{◌||◌, length-append, div-le_self, true≢false}
use Rattle.tv_bits.proofs.BitNumbers.{HasBits-below}
use Rattle.tv_bits.specs.Times.{times_of}
use Rattle.tv_core.specs.declared.field.TheConstants.{P}
use Rattle.tv_inputs.proofs.Settled.{Settles, times_then, settles_sum, settles_then, settles_to}
use Rattle.tv_isa.specs.Opcodes.{among, chosen, place_of}
use Rattle.tv_isa.specs.declared.instr.Instr.{Instr}
use Rattle.tv_mem.specs.Bytes.{byte_of}
use Rattle.tv_numbers.proofs.Cases.{chosen_in}
use Rattle.tv_numbers.specs.Numbers.{operand_word, other_word, takes_primary, found}
use Rattle.tv_numbers.specs.Views.{View}
use Rattle.tv_step.specs.Rows.{word_size}
use Rattle.tv_inputs.proofs.FieldNumbers.{small_word, byte_small, either, flag_times}
use Rattle.tv_inputs.proofs.TapeLaws.{no_primary, no_auxiliary, one_tape, among_one}
use Rattle.tv_inputs.proofs.OpcodeLaws.{opcode_sum_sound, opcode_wire_is}
use Rattle.tv_results.proofs.ResultLaws.{ResultCase, result_is, compared_is, tested_is}
use Rattle.tv_inputs.proofs.TapeGates.{value-two, value-three, value-four}
use Rattle.tv_inputs.proofs.UpperLaws.{upper_is, length-upper}
use Rattle.tv_inputs.specs.Accumulation.{closed_of}
use Rattle.tv_inputs.specs.Inputs.{input_of}
use Rattle.tv_inputs.specs.OpcodeSums.{opcode_sum}
use Rattle.tv_inputs.specs.Operand.{upper_of}
use Rattle.tv_inputs.specs.Rows.{covers}
use Rattle.tv_inputs.specs.Results.{low_ops, high_ops, parts_in, signs_in, result_of, tested_of, results_of, AreResults, HasSources, ResultsAreSound, low_part}
use Rattle.tv_inputs.specs.Results.{high_part, moved_part, result_number, tested_number, results_values, ResultsAreComplete, ResultsSizes, ResultsCosts}
use Rattle.tv_inputs.specs.TestNumbers.{zero_ops, carry_ops, place_bits, tested_numbers}
use Rattle.tv_inputs.specs.Tapes.{took}
use Rattle.tv_inputs.specs.declared.records.OperandWires.{OperandWires}
use Rattle.tv_inputs.specs.declared.records.ResultWires.{ResultWires}
use Rattle.tv_inputs.specs.declared.records.Sources.{Sources}
use Rattle.tv_inputs.specs.declared.records.StateWires.{StateWires}
use Rattle.tv_inputs.specs.declared.records.TapeWires.{TapeWires}

-- ---- numbers
-- the gate of the low half: an opcode that has it, or a word that is found
low_gate : (g p t : Bool) (b taken : ℕ) → b < 2 ^ 29 → taken ≡ (if p then b + 1 else b) → (p ≡ true → t ≡ false) → (g ≡ true → (p ≡ false) × (t ≡ false))
    → ((P - 1) * b + (flag_of g + (1 * taken + 1 * flag_of t) % P) % P) % P ≡ flag_of (g || (p || t))
low_gate true p t b taken h e apart none = rw (e, (none refl).0, (none refl).1) (omega arith)
low_gate false true t b taken h e apart none = rw (e, apart refl) (omega arith)
low_gate false false true b taken h e apart none = rw e (omega arith)
low_gate false false false b taken h e apart none = rw e (omega arith)

moved_gate : (m g : Bool) (a : ℕ) → a < P → (m ≡ true → g ≡ false)
    → ((P - 1) * flag_of m + flag_of g) % P * a % P ≡ (if m then (P - a) % P else if g then a else 0)
moved_gate true g a h none = rw (none refl) (omega arith)
moved_gate false true a h none = omega arith
moved_gate false false a h none = omega arith

-- the sum of the parts
sum_is : (n b : Bool) (l h m c byte : ℕ) → l < P → h < P → m < P → c < P → byte < P → (n ≡ true → b ≡ false)
    → ((c * flag_of n + 1 * l + 1 * h + 1 * m) % P + flag_of b * byte) % P ≡ (l + h + m + (if n then c else if b then byte else 0)) % P
sum_is true b l h m c byte hl hh hm hc hb none = rw (none refl) (omega arith)
sum_is false true l h m c byte hl hh hm hc hb none = omega arith
sum_is false false l h m c byte hl hh hm hc hb none = omega arith

-- what a gate that is on holds to 0
held : (b : Bool) (g v : ℕ) → v < P → g ≡ flag_of b → g * v % P ≡ 0 → b ≡ true → v ≡ 0
held true g v h e m is = omega (arith, ap (λ n. n * v % P) (sym e) ∙ m)
held false g v h e m is = absurd (true≢false (sym is))

holds_by : (b : Bool) (g v : ℕ) → g ≡ flag_of b → (b ≡ true → v ≡ 0) → g * v % P ≡ 0
holds_by true g v e is = rw (e, is refl) refl
holds_by false g v e is = rw e (omega arith)

same_by : (x y : ℕ) → x < P → y < P → ((P - 1) * x + 1 * y) % P ≡ 0 → y ≡ x
same_by x y h k e = omega arith

none_by : (x y : ℕ) → x < P → y ≡ x → ((P - 1) * x + 1 * y) % P ≡ 0
none_by x y h e = omega arith

signs_by : (w : ℕ) → IsWidth w → (t h y : ℕ) → t < 2 → h < P → y < P → ((2 ^ w - 1) * t + (P - 1) * h + 1 * y) % P ≡ 0 → y ≡ (h + (P - (2 ^ w - 1) * t)) % P
signs_by w width = for_widths (λ w. (t h y : ℕ) → t < 2 → h < P → y < P → ((2 ^ w - 1) * t + (P - 1) * h + 1 * y) % P ≡ 0 → y ≡ (h + (P - (2 ^ w - 1) * t)) % P)
    (λ t h y a b c e. omega arith) (λ t h y a b c e. omega arith) w width

signs_none : (w : ℕ) → IsWidth w → (t h y : ℕ) → t < 2 → h < P → y ≡ (h + (P - (2 ^ w - 1) * t)) % P → ((2 ^ w - 1) * t + (P - 1) * h + 1 * y) % P ≡ 0
signs_none w width = for_widths (λ w. (t h y : ℕ) → t < 2 → h < P → y ≡ (h + (P - (2 ^ w - 1) * t)) % P → ((2 ^ w - 1) * t + (P - 1) * h + 1 * y) % P ≡ 0)
    (λ t h y a b e. omega arith) (λ t h y a b e. omega arith) w width

shift_by : (v y : ℕ) → v < P → y < P → ((P - 1) * v % P + y) % P ≡ 0 → y ≡ v
shift_by v y h k e = omega arith

shift_none : (v y : ℕ) → v < P → y ≡ v → ((P - 1) * v % P + y) % P ≡ 0
shift_none v y h e = omega arith

-- the first of four that is on
pick_four : (a b c d : Bool) (y v1 v2 v3 v4 : ℕ) → (a ≡ true → y ≡ v1) → (b ≡ true → y ≡ v2) → (c ≡ true → y ≡ v3) → (d ≡ true → y ≡ v4)
    → (if a then true else if b then true else if c then true else if d then true else false) ≡ true
    → y ≡ (if a then v1 else if b then v2 else if c then v3 else if d then v4 else 0)
pick_four true b c d y v1 v2 v3 v4 p q r s e = p refl
pick_four false true c d y v1 v2 v3 v4 p q r s e = q refl
pick_four false false true d y v1 v2 v3 v4 p q r s e = r refl
pick_four false false false true y v1 v2 v3 v4 p q r s e = s refl
pick_four false false false false y v1 v2 v3 v4 p q r s e = absurd (true≢false (sym e))

-- ---- what is answered
pub result_answer : (w : ℕ) (state : StateWires) (op : ℕ) (a : OperandWires) (from : Sources) (t : TapeWires) (next : ℕ)
    → (result_of w state op a from t next).answer ≡ next + 1 + 1 + 1
unfolding result_of times_of closed_of fresh put pure ◌>>=◌
result_answer w state op a from t next = refl

pub result_next : (w : ℕ) (state : StateWires) (op : ℕ) (a : OperandWires) (from : Sources) (t : TapeWires) (next : ℕ)
    → (result_of w state op a from t next).next ≡ next + 4
unfolding result_of times_of closed_of fresh put pure ◌>>=◌
result_next w state op a from t next = omega arith

tested_answer : (w op : ℕ) (a : OperandWires) (from : Sources) (result next : ℕ) → (tested_of w op a from result next).answer ≡ next
unfolding tested_of fresh put pure ◌>>=◌
tested_answer w op a from result next = refl

-- ---- the values
module _ (w : ℕ) (width : IsWidth w) (z : List ℕ) (n : ℕ) (state : StateWires) (op : ℕ) (a : OperandWires) (from : Sources) (t : TapeWires) (v : View)
    (i : Instr) (low high : ℕ)
    (has : HasSources w z (record { state = state; op = op; operand = a; tapes = t }) from (input_of n v i low) high) where
  abbrev at : ℕ
  at = operand_word v i

  abbrev finds : Bool
  finds = takes_primary v i n || took z t

  abbrev byte : ℕ
  byte = byte_of low (at % word_size w)

  at_small : at < P
  at_small = small_word w width at (HasBits-below has.operand.bits)

  low_small : low < P
  low_small = small_word w width low has.halves.low_word

  high_small : high < P
  high_small = small_word w width high has.halves.high_word

  pub case_of : ResultCase w width (other_word v i) at low high finds (HasBits-below has.operand.bits) i.op
  case_of = record { reads = λ e. ap₂ (λ p q. p || q) (no_primary v i n e) (no_auxiliary v i (took z t) has.tapes.asked e); halves = has.halves }

  apart_ops : (ks : List ℕ) (j : ℕ) → among ks j ≡ false → (i.op == j) ≡ true → among ks i.op ≡ false
  apart_ops ks j none e = ap (among ks) (eqb-true i.op j e) ∙ none

  low_none : among low_ops i.op ≡ true → (takes_primary v i n ≡ false) × (took z t ≡ false)
  low_none e = elim (cases_eq i.op 30) [
    | inl same ↦ absurd (true≢false (sym e ∙ ap (among low_ops) same))
    | inr other ↦ (no_primary v i n (ne_eqb i.op 30 other), no_auxiliary v i (took z t) has.tapes.asked (ne_eqb i.op 30 other))
  ]

  abbrev low_terms : Combination
  low_terms = (P - 1, state.taken_of_primary) ∷ (opcode_sum op low_ops ++ (1, t.taken) ∷ (1, t.takes) ∷ [])

  abbrev moved_terms : Combination
  moved_terms = (P - 1, op + place_of 3) ∷ opcode_sum op (18 ∷ 19 ∷ [])

  low_is : value low_terms z * value (wire from.low) z % P ≡ low_part i.op low finds
  low_is =
      ap₂ (λ g m. g * m % P)
      (value-cons (P - 1) state.taken_of_primary (opcode_sum op low_ops ++ (1, t.taken) ∷ (1, t.takes) ∷ []) z
      ∙ ap₂ (λ b m. ((P - 1) * b + m) % P) has.before (value-append (opcode_sum op low_ops) ((1, t.taken) ∷ (1, t.takes) ∷ []) z
      ∙ ap₂ (λ g m. (g + m) % P) (opcode_sum_sound z op i.op low_ops has.opcode refl)
      (value-two z 1 1 t.taken t.takes ∙ ap (λ u. (1 * slice_index z t.taken + 1 * u) % P) has.tapes.takes))
      ∙ low_gate (among low_ops i.op) (takes_primary v i n) (took z t) v.taken (slice_index z t.taken) (omega (arith, has.within, has.short)) has.tapes.taken
      (one_tape v i n (took z t) has.tapes.asked) low_none)
      (value-wire has.assigns from.low ∙ has.low_wire)
      ∙ flag_times (among low_ops i.op || finds) low low_small

  high_is : value (opcode_sum op high_ops) z * value (wire from.high) z % P ≡ high_part i.op high
  high_is = ap₂ (λ g m. g * m % P) (opcode_sum_sound z op i.op high_ops has.opcode refl) (value-wire has.assigns from.high ∙ has.high_wire)
      ∙ flag_times (among high_ops i.op) high high_small

  moved_is : value moved_terms z * value (wire a.word) z % P ≡ moved_part i.op at
  moved_is =
      ap₂ (λ g m. g * m % P)
      (value-cons (P - 1) (op + place_of 3) (opcode_sum op (18 ∷ 19 ∷ [])) z
      ∙ ap₂ (λ m g. ((P - 1) * m + g) % P) (opcode_wire_is z op i.op 3 has.opcode (omega arith) refl)
      (opcode_sum_sound z op i.op (18 ∷ 19 ∷ []) has.opcode refl))
      (value-wire has.assigns a.word ∙ has.operand.word)
      ∙ moved_gate (i.op == 3) (among (18 ∷ 19 ∷ []) i.op) at at_small (apart_ops (18 ∷ 19 ∷ []) 3 refl)

  part_small : (b : Bool) (m : ℕ) → m < P → (if b then m else 0) < P
  part_small b m h = either b m 0 h (omega arith)

  moved_small : moved_part i.op at < P
  moved_small = either (i.op == 3) ((P - at) % P) _ (mod-lt _ (omega arith)) (part_small (among (18 ∷ 19 ∷ []) i.op) at at_small)

  word_is : (l h m : ℕ) → slice_index z l ≡ low_part i.op low finds → slice_index z h ≡ high_part i.op high → slice_index z m ≡ moved_part i.op at
      → (value (parts_in w (op + place_of 3) l h m) z + value (opcode_sum op (27 ∷ [])) z * value (wire from.byte) z) % P
      ≡ result_number w i.op at low high finds
  word_is l h m e f g =
      ap₂ (λ p q. (p + q) % P)
      (value-four z (2 ^ w - 1) 1 1 1 (op + place_of 3) l h m
      ∙ ap₂ (λ p q. ((2 ^ w - 1) * p + 1 * q + 1 * slice_index z h + 1 * slice_index z m) % P) (opcode_wire_is z op i.op 3 has.opcode (omega arith) refl) e
      ∙ ap₂ (λ p q. ((2 ^ w - 1) * flag_of (i.op == 3) + 1 * low_part i.op low finds + 1 * p + 1 * q) % P) f g)
      (ap₂ (λ p q. p * q) (opcode_sum_sound z op i.op (27 ∷ []) has.opcode refl ∙ ap flag_of (among_one 27 i.op)) (value-wire has.assigns from.byte ∙ has.byte))
      ∙ sum_is (i.op == 3) (i.op == 27) (low_part i.op low finds) (high_part i.op high) (moved_part i.op at) (2 ^ w - 1) byte
      (part_small (among low_ops i.op || finds) low low_small) (part_small (among high_ops i.op) high high_small) moved_small
      (small_word w width (2 ^ w - 1) (omega (arith, width))) (byte_small low (at % word_size w))
      (λ e. ne_eqb i.op 27 (λ k. other (eqb-true i.op 3 e) k))
    where
      other : i.op ≡ 3 → i.op ≡ 27 → ⊥
      other e f = absurd (omega arith)

  -- the gates of the tested number, and what they hold
  zero_gate : value (opcode_sum op zero_ops) z ≡ flag_of (among zero_ops i.op)
  zero_gate = opcode_sum_sound z op i.op zero_ops has.opcode refl

  carry_gate : value (opcode_sum op carry_ops) z ≡ flag_of (among carry_ops i.op)
  carry_gate = opcode_sum_sound z op i.op carry_ops has.opcode refl

  signs_gate : value (opcode_sum op (8 ∷ [])) z ≡ flag_of (among (8 ∷ []) i.op)
  signs_gate = opcode_sum_sound z op i.op (8 ∷ []) has.opcode refl

  shift_gate : value (opcode_sum op (11 ∷ 12 ∷ [])) z ≡ flag_of (among (11 ∷ 12 ∷ []) i.op)
  shift_gate = opcode_sum_sound z op i.op (11 ∷ 12 ∷ []) has.opcode refl

  abbrev place : ℕ
  place = at / 2 ^ place_bits w

  place_small : place < P
  place_small = omega (arith, at_small, div-le_self at (2 ^ place_bits w))

  shift_value : (y : ℕ) → value (upper_of (P - 1) a (place_bits w) ++ wire y) z ≡ ((P - 1) * place % P + slice_index z y) % P
  shift_value y =
      value-append (upper_of (P - 1) a (place_bits w)) (wire y) z
      ∙ ap₂ (λ p q. (p + q) % P) (upper_is w width z a at (P - 1) (place_bits w) has.assigns has.operand (omega (arith, width))) (value-wire has.assigns y)

  signs_value : (y : ℕ) → value (signs_in w from.top from.high y) z ≡ ((2 ^ w - 1) * bit_at low (w - 1) + (P - 1) * high + 1 * slice_index z y) % P
  signs_value y = value-three z (2 ^ w - 1) (P - 1) 1 from.top from.high y
      ∙ ap₂ (λ p q. ((2 ^ w - 1) * p + (P - 1) * q + 1 * slice_index z y) % P) has.top has.high_wire

  top_small : bit_at low (w - 1) < 2
  top_small = omega arith

  high_value : (y : ℕ) → value ((P - 1, from.high) ∷ (1, y) ∷ []) z ≡ ((P - 1) * high + 1 * slice_index z y) % P
  high_value y = value-two z (P - 1) 1 from.high y ∙ ap (λ p. ((P - 1) * p + 1 * slice_index z y) % P) has.high_wire

  tested_sound : (next result : ℕ) → Meets z (tested_of w op a from result next).list
      → covers (tested_numbers w at low high (slice_index z result)) i.op ≡ true
      → slice_index z next ≡ chosen (tested_numbers w at low high (slice_index z result)) i.op
  unfolding tested_of fresh put pure ◌>>=◌
  tested_sound next result meets =
      let y = slice_index z next in
      let ys = wire-below has.assigns next in
      pick_four (among zero_ops i.op) (among carry_ops i.op) (among (8 ∷ []) i.op) (among (11 ∷ 12 ∷ []) i.op) y (slice_index z result) high
      ((high + (P - (2 ^ w - 1) * bit_at low (w - 1))) % P) (at / 2 ^ place_bits w)
      (λ e. same_by (slice_index z result) y (wire-below has.assigns result) ys
      (sym (value-two z (P - 1) 1 result next)
      ∙ held (among zero_ops i.op) (value (opcode_sum op zero_ops) z) _ (value-below ((P - 1, result) ∷ (1, next) ∷ []) z) zero_gate meets.0 e))
      (λ e. same_by high y high_small ys (sym (high_value next)
      ∙ held (among carry_ops i.op) (value (opcode_sum op carry_ops) z) _ (value-below ((P - 1, from.high) ∷ (1, next) ∷ []) z) carry_gate meets.1.0 e))
      (λ e. signs_by w width (bit_at low (w - 1)) high y top_small high_small ys
      (sym (signs_value next) ∙ held (among (8 ∷ []) i.op) (value (opcode_sum op (8 ∷ [])) z) _
      (value-below (signs_in w from.top from.high next) z) signs_gate meets.1.1.0 e))
      (λ e. shift_by place y place_small ys
      (sym (shift_value next) ∙ held (among (11 ∷ 12 ∷ []) i.op) (value (opcode_sum op (11 ∷ 12 ∷ [])) z) _
      (value-below (upper_of (P - 1) a (place_bits w) ++ wire next) z) shift_gate meets.1.1.1.0 e))

  tested_complete : (next result : ℕ) → slice_index z next ≡ tested_number w i.op at low high (slice_index z result)
      → Meets z (tested_of w op a from result next).list
  unfolding tested_of fresh put pure ◌>>=◌
  tested_complete next result e =
      let is = tested_is w at low high (slice_index z result) i.op in (
        holds_by (among zero_ops i.op) _ _ zero_gate
            (λ k. value-two z (P - 1) 1 result next ∙ none_by (slice_index z result) (slice_index z next) (wire-below has.assigns result) (e ∙ is.0 k)),
        (
          holds_by (among carry_ops i.op) _ _ carry_gate (λ k. high_value next ∙ none_by high (slice_index z next) high_small (e ∙ is.1 k)),
          (
            holds_by (among (8 ∷ []) i.op) _ _ signs_gate
                (λ k. signs_value next ∙ signs_none w width (bit_at low (w - 1)) high (slice_index z next) top_small high_small (e ∙ is.2 k)),
            (
              holds_by (among (11 ∷ 12 ∷ []) i.op) _ _ shift_gate
                  (λ k. shift_value next ∙ shift_none place (slice_index z next) place_small (e ∙ is.3 k)),
              tt,
            ),
          ),
        ),
      )

  -- ---- the laws
  word_settled : Settles z (result_of w state op a from t)
      (low_part i.op low finds ∷ high_part i.op high ∷ moved_part i.op at ∷ result_number w i.op at low high finds ∷ [])
      (λ k. slice_index z k ≡ result_number w i.op at low high finds)
  unfolding result_of
  word_settled =
      times_then has.assigns _ low_terms (wire from.low) low_is (λ l is_low.
      times_then has.assigns _ (opcode_sum op high_ops) (wire from.high) high_is (λ h is_high.
      times_then has.assigns _ moved_terms (wire a.word) moved_is (λ m is_moved.
      settles_sum has.assigns (parts_in w (op + place_of 3) l h m) (opcode_sum op (27 ∷ [])) (wire from.byte) (word_is l h m is_low is_high is_moved))))

  tested_settled : (word : ℕ) → slice_index z word ≡ result_number w i.op at low high finds
      → Settles z (tested_of w op a from word) (tested_number w i.op at low high (result_number w i.op at low high finds) ∷ [])
      (λ y. covers (tested_numbers w at low high (slice_index z word)) i.op ≡ true
      → slice_index z y ≡ chosen (tested_numbers w at low high (slice_index z word)) i.op)
  tested_settled word is = record {
    sound = λ next meets e. ap (slice_index z) (tested_answer w op a from word next) ∙ tested_sound next word meets e;
    complete = λ next values. tested_complete next word (values.0 ∙ sym (ap (tested_number w i.op at low high) is));
  }

  results_settled : Settles z (results_of w state op a from t) (results_values w i.op at low high finds)
      (λ r. AreResults w z r (input_of n v i low) high (took z t))
  unfolding results_of
  results_settled =
      settles_then (result_of w state op a from t) _
      (low_part i.op low finds ∷ high_part i.op high ∷ moved_part i.op at ∷ result_number w i.op at low high finds ∷ [])
      (tested_number w i.op at low high (result_number w i.op at low high finds) ∷ []) (result_next w state op a from t) word_settled (λ word is.
      settles_to (tested_of w op a from word) _ (tested_settled word is) (λ y is_tested. record {
        word = λ e. is ∙ result_is w width (other_word v i) at low high finds (HasBits-below has.operand.bits) i.op e case_of;
        compared = λ e. is ∙ compared_is w width (other_word v i) at low high finds (HasBits-below has.operand.bits) i.op e case_of;
        tested = is_tested;
      }))

pub results_sound : ResultsAreSound
results_sound w width z next n state op a from t v i low high has = (results_settled w width z n state op a from t v i low high has).sound next

pub results_complete : ResultsAreComplete
results_complete w width z next n state op a from t v i low high has = (results_settled w width z n state op a from t v i low high has).complete next

abbrev wires_from : ℕ → ℕ → ResultWires
wires_from a b = record { word = a; tested = b }

results_shape : (w : ℕ) (state : StateWires) (op : ℕ) (a : OperandWires) (from : Sources) (t : TapeWires) (next : ℕ)
    → let made = results_of w state op a from t next in
    (made.answer ≡ record { word = next + 3; tested = next + 4 }) × (made.next ≡ next + 5) × (length made.list ≡ 8)
unfolding results_of result_of tested_of times_of closed_of fresh put pure ◌>>=◌
results_shape w state op a from t next =
    let word : next + 1 + 1 + 1 ≡ next + 3 = omega arith in
    let tested : next + 1 + 1 + 1 + 1 ≡ next + 4 = omega arith in
    (ap₂ wires_from word tested, omega arith, refl)

results_terms : (w : ℕ) → IsWidth w → (state : StateWires) (op : ℕ) (a : OperandWires) (from : Sources) (t : TapeWires) (next : ℕ)
    → terms_in (results_of w state op a from t next).list ≡ w / 16 + 62
unfolding results_of result_of tested_of times_of closed_of fresh put pure ◌>>=◌
results_terms w width state op a from t next =
    let upper = upper_of (P - 1) a (place_bits w) in
    omega (arith, length-append upper (wire (next + 1 + 1 + 1 + 1)), length-upper (P - 1) a (place_bits w))

pub results_costs : ResultsCosts
results_costs = record { constraints = λ w state op a from t next. (results_shape w state op a from t next).2; terms = results_terms }

-- ---- sizes
tested_below : (w : ℕ) → IsWidth w → (k a low high result : ℕ) → a < 2 ^ w → high < P → result < P → tested_number w k a low high result < P
tested_below w width k a low high result h l m =
    let small = small_word w width a h in
    either (among (9 ∷ 10 ∷ []) k) a (chosen (tested_numbers w a low high result) k) small
    (chosen_in (λ n. n < P) (tested_numbers w a low high result) k (omega arith) (m, (l, (mod-lt _ (omega arith), (divided w width a small, tt)))))
  where
    divided : (w : ℕ) → IsWidth w → (a : ℕ) → a < P → a / 2 ^ place_bits w < P
    divided w width = for_widths (λ w. (a : ℕ) → a < P → a / 2 ^ place_bits w < P) (λ a h. omega arith) (λ a h. omega arith) w width

results_in_field : (w : ℕ) → IsWidth w → (k a low high : ℕ) (found : Bool) → a < 2 ^ w → low < 2 ^ w → high < 2 ^ w
    → InField (results_values w k a low high found)
results_in_field w width k a low high found h l m =
    let a_small = small_word w width a h in
    let low_small = small_word w width low l in
    let high_small = small_word w width high m in
    let result : ℕ = result_number w k a low high found in
    let result_small : result < P = mod-lt _ (omega arith) in
    let v4 : List ℕ = tested_number w k a low high result ∷ [] in
    let v3 : List ℕ = result ∷ v4 in
    let v2 : List ℕ = moved_part k a ∷ v3 in
    let v1 : List ℕ = high_part k high ∷ v2 in
    InField-cons (low_part k low found) v1 (either (among low_ops k || found) low 0 low_small (omega arith))
    (InField-cons (high_part k high) v2 (either (among high_ops k) high 0 high_small (omega arith))
    (InField-cons (moved_part k a) v3 (either (k == 3) ((P - a) % P) _ (mod-lt _ (omega arith)) (either (among (18 ∷ 19 ∷ []) k) a 0 a_small (omega arith)))
    (InField-cons result v4 result_small
    (InField-cons (tested_number w k a low high result) [] (tested_below w width k a low high result h high_small result_small) InField-none))))

pub results_sizes : ResultsSizes
results_sizes = record {
  answer = λ w state op a from t next. (results_shape w state op a from t next).0;
  end = λ w state op a from t next. (results_shape w state op a from t next).1;
  fills = λ w state op a from t k x low high found next. (results_shape w state op a from t next).1;
  in_field = results_in_field;
}
