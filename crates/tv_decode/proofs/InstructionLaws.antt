-- The laws of an instruction with a row of the used opcodes.
use Rattle.tv_core.proofs.Common.{◌⊎◌, ◌≡◌, ◌≢◌, ℕ, zero, suc, ◌+◌, ◌-◌, ◌*◌, ◌%◌, ◌^◌, ◌<◌, ◌≤◌, ◌==◌, true, List, [], ◌∷◌, ◌++◌, length, inl, inr, refl, sym}
use Rattle.tv_core.proofs.Common.{◌∙◌, ap, ap₂, subst, arith, mod-lt, zero-mul, slice_index, cases_eq, cases_lt, nat_tests, length-append, length-each_below}
use Rattle.tv_core.proofs.Common.{value-below, value-append, InField-none, InField-cons, Meets-split, Meets-join, here, fresh, put, pure, turns, ◌>>=◌}
use Rattle.tv_core.proofs.Common.{Combination, value, Assigns, Meets, HasFrom, InField, terms_in, for_widths, IsWidth, flag_of}
use Rattle.std.proofs.Common.{eq-eqb, mul-zero, mul-one}
use Rattle.std.proofs.lemmas.Nat.{pow_pos}
use Rattle.tv_bits.proofs.BitLaws.{bit_cases}
use Rattle.tv_bits.proofs.NewBitsLaws.{bits_are, bits_met}
use Rattle.tv_bits.proofs.OneHotLaws.{value-onehot, one_at-same, one_at-other}
use Rattle.tv_bits.proofs.SizeLaws.{bits_in_field, length-bits}
use Rattle.tv_bits.proofs.BitNumbers.{HasBits-bit_at, HasBits-below, HasBits-from_values, value-bits_below}
use Rattle.tv_bits.proofs.BitsLaws.{new_bits_next, new_bits_complete}
use Rattle.tv_bits.proofs.TimesLaws.{kept_sound, kept_complete, kept_answer, kept_next}
use Rattle.tv_bits.specs.Bit.{IsBit, bit_of}
use Rattle.tv_bits.specs.Bits.{HasBits, binary_value, bits_combination, bits_values, new_bit, new_bits_of}
use Rattle.tv_bits.specs.OneHot.{IsOneHot, row_sum, one_at}
use Rattle.tv_bits.specs.Times.{kept_of, times_of}
use Rattle.tv_core.proofs.BelowLaws.{sum_below-zero, sum_below-suc, sum_below-add, sum_below-same, sum_below-single, sum_below-zeros, value-weighted}
use Rattle.tv_core.proofs.BelowLaws.{has_each}
use Rattle.tv_core.proofs.CombinationLaws.{value-constant}
use Rattle.tv_core.proofs.FieldLaws.{InField-append, InField-each_below}
use Rattle.tv_core.proofs.HasLaws.{HasFrom-after}
use Rattle.tv_core.specs.Below.{sum_below, weighted}
use Rattle.tv_core.specs.declared.field.TheConstants.{P}
use Rattle.tv_decode.specs.Instructions.{IsOpcodeRow, opcode_values, opcode_weight, head_of, instruction_of, instruction_wires}
use Rattle.tv_decode.specs.Instructions.{instruction_values, IsDecoded, InstructionIsSound, InstructionIsComplete, InstructionSizes, InstructionCosts}
use Rattle.tv_decode.specs.Instructions.{OpcodeWireIsRight}
use Rattle.tv_decode.specs.declared.records.InstructionWires.{InstructionWires}
use Rattle.tv_decode.proofs.FieldsLaws.{field_bits_are, word_reg_bits, by_parity}
use Rattle.tv_isa.specs.Instruction.{field, decode}
use Rattle.tv_isa.specs.Opcodes.{is_used, place_of, opcode_at}

-- ---- places in the row
-- a used opcode is below 32, and not one of the three unused
used_is : (k : ℕ) → is_used k ≡ true → (k < 23) ⊎ ((26 ≤ k) × (k < 32))
used_is k u = grind (arith, nat_tests)

place-low : (k : ℕ) → k < 23 → place_of k ≡ k
place-low k h = grind (arith, nat_tests)

place-high : (k : ℕ) → 26 ≤ k → place_of k ≡ k - 3
place-high k h = grind (arith, nat_tests)

used_from : (k : ℕ) → k < 32 → (k < 23) ⊎ (26 ≤ k) → is_used k ≡ true
used_from k h (inl low) = grind (arith, nat_tests)
used_from k h (inr high) = grind (arith, nat_tests)

place_below : (k : ℕ) → is_used k ≡ true → place_of k < 29
place_below k u = elim (used_is k u) [ inl low ↦ omega (arith, place-low k low) | inr high ↦ omega (arith, place-high k high.0, high.1) ]

at_place : (k : ℕ) → is_used k ≡ true → opcode_at (place_of k) ≡ k
at_place k u = elim (used_is k u) [ inl low ↦ grind (arith, nat_tests) | inr high ↦ grind (arith, nat_tests) ]

pub at_below : (j : ℕ) → j < 29 → opcode_at j < 32
at_below j h = grind (arith, nat_tests)

at_used : (j : ℕ) → j < 29 → is_used (opcode_at j) ≡ true
at_used j h = used_from (opcode_at j) (at_below j h) (parts j h)
  where
    parts : (j : ℕ) → j < 29 → (opcode_at j < 23) ⊎ (26 ≤ opcode_at j)
    parts j h = elim (cases_lt j 23) [ inl low ↦ inl (grind (arith, nat_tests)) | inr high ↦ inr (grind (arith, nat_tests)) ]

place_at : (j : ℕ) → j < 29 → place_of (opcode_at j) ≡ j
place_at j h = elim (cases_lt j 23) [ inl low ↦ grind (arith, nat_tests) | inr high ↦ grind (arith, nat_tests) ]

-- ---- one of some bits is 1 where their sum is
sum_small : (n : ℕ) (f : ℕ → ℕ) → ((i : ℕ) → i < n → IsBit (f i)) → sum_below n f ≤ n
sum_small zero f bits = omega (arith, sum_below-zero f)
sum_small (suc n) f bits = omega (arith, sum_below-suc n f, bits n (omega arith), sum_small n f (λ i h. bits i (omega arith)))

sum_none : (n : ℕ) (f : ℕ → ℕ) → sum_below n f ≡ 0 → (i : ℕ) → i < n → f i ≡ 0
sum_none zero f none i h = absurd (omega arith)
sum_none (suc n) f none i h = elim (cases_eq i n) [
  | inl last ↦ ap f last ∙ omega (arith, sum_below-suc n f)
  | inr apart ↦ sum_none n f (omega (arith, sum_below-suc n f)) i (omega arith)
]

-- the number of the one that is 1
record One (n : ℕ) (f : ℕ → ℕ) : Type 0 where
  pub number : ℕ
  pub within : number < n
  pub hot : f number ≡ 1
  pub cold : (i : ℕ) → i < n → i ≢ number → f i ≡ 0

one_of_sum : (n : ℕ) (f : ℕ → ℕ) → ((i : ℕ) → i < n → IsBit (f i)) → sum_below n f ≡ 1 → One n f
one_of_sum zero f bits one = absurd (omega (arith, sum_below-zero f))
one_of_sum (suc n) f bits one = elim (bit_cases (f n) (bits n (omega arith))) [
  | inl none ↦
      let rest = one_of_sum n f (λ i h. bits i (omega arith)) (omega (arith, sum_below-suc n f)) in
      let inside = rest.within in
      record {
        number = rest.number;
        within = omega arith;
        hot = rest.hot;
        cold = λ i h apart. elim (cases_eq i n) [ inl last ↦ ap f last ∙ none | inr before ↦ rest.cold i (omega arith) apart ];
      }
  | inr last ↦ record {
    number = n;
    within = omega arith;
    hot = last;
    cold = λ i h apart. sum_none n f (omega (arith, sum_below-suc n f)) i (omega arith);
  }
]

plain : (n : ℕ) → 1 * n ≡ n
plain n = omega arith

-- the row, from its bits and their sum
row_of : (z : List ℕ) (first : ℕ) → Assigns z → ((i : ℕ) → i < 29 → IsBit (slice_index z (first + i))) → value (row_sum first 29) z ≡ 1
    → One 29 (λ i. slice_index z (first + i))
row_of z first assigns bits sum = search (arith, ℕ, sum_below-same, plain, one_of_sum, value-weighted, sum_small)

-- ---- the numbers of the first word: v below the opcode k
module _ (w : ℕ) (width : IsWidth w) (v k : ℕ) (low : v < 2 ^ (w - 5)) (high : k < 32) where
  whole_below : v + k * 2 ^ (w - 5) < 2 ^ w
  whole_below = grind arith

  whole_op : field (w - 5) 5 (v + k * 2 ^ (w - 5)) ≡ k
  whole_op = grind arith

  whole_imm : field (w - 6) 1 (v + k * 2 ^ (w - 5)) ≡ field (w - 6) 1 v
  whole_imm = grind arith

  whole_dest : field (w - 10) 4 (v + k * 2 ^ (w - 5)) ≡ field (w - 10) 4 v
  whole_dest = grind arith

  whole_source : field (w - 14) 4 (v + k * 2 ^ (w - 5)) ≡ field (w - 14) 4 v
  whole_source = grind arith

whole_again : (w : ℕ) → IsWidth w → (h : ℕ) → h < 2 ^ w → h % 2 ^ (w - 5) + field (w - 5) 5 h * 2 ^ (w - 5) ≡ h
whole_again w width h small = grind arith

-- ---- the row
wire_here : (z : List ℕ) (first op k : ℕ) → IsOpcodeRow z first op → k ≡ op → slice_index z (first + place_of k) ≡ 1
wire_here z first op k is same = ap (λ n. slice_index z (first + place_of n)) same ∙ is.row.hot

wire_there : (z : List ℕ) (first op k : ℕ) → IsOpcodeRow z first op → is_used k ≡ true → k ≢ op → slice_index z (first + place_of k) ≡ 0
wire_there z first op k is u apart =
    is.row.cold (place_of k) (place_below k u) (λ same. apart (sym (at_place k u) ∙ ap opcode_at same ∙ at_place op is.used))

pub opcode_wire : OpcodeWireIsRight
opcode_wire z first op k is u = elim (cases_eq k op) [
  | inl same ↦ wire_here z first op k is same ∙ sym (ap flag_of (eq-eqb k op same))
  | inr apart ↦ wire_there z first op k is u apart ∙ sym (none_at k op apart)
]
  where
    none_at : (a b : ℕ) → a ≢ b → flag_of (a == b) ≡ 0
    none_at a b apart = grind (arith, nat_tests)

-- ---- the first word's combination
zero_both : (a b : ℕ) → 0 * a * b ≡ 0
zero_both a b = ap (λ n. n * b) (zero-mul a) ∙ zero-mul b

module _ (z : List ℕ) (w : ℕ) (width : IsWidth w) (low op v p : ℕ) (s : HasBits z low (w - 5) v) (row : IsOneHot z op 29 p) where
  short : w - 5 ≤ 63
  short = omega arith

  sum_weights : sum_below 28 (λ i. opcode_weight w (i + 1) * slice_index z (op + 1 + i)) ≡ opcode_weight w p
  sum_weights =
      let g : ℕ → ℕ = λ i. opcode_weight w i * slice_index z (op + i) in
      let all = sum_below-single 29 p g row.within (λ i h apart. ap (λ n. opcode_weight w i * n) (row.cold i h apart) ∙ mul-zero (opcode_weight w i)) in
      let here : g p ≡ opcode_weight w p = ap (λ n. opcode_weight w p * n) row.hot ∙ mul-one (opcode_weight w p) in
      let cut = sum_below-add 1 28 g in
      let none : sum_below 1 g ≡ 0 = sum_below-zeros 1 g (λ i h. first_none i h) in
      let moved = sum_below-same 28 (λ i. opcode_weight w (i + 1) * slice_index z (op + 1 + i)) (λ i. g (1 + i))
      (λ i h. ap₂ (λ a b. opcode_weight w a * slice_index z b) (one_more i) (one_past i)) in
      omega (arith, moved, cut, none, all, here)
    where
      first_none : (i : ℕ) → i < 1 → opcode_weight w i * slice_index z (op + i) ≡ 0
      first_none i h = let zero_i : i ≡ 0 = omega arith in ap (λ n. opcode_weight w n * slice_index z (op + i)) zero_i
          ∙ zero_both (2 ^ (w - 5)) (slice_index z (op + i))

      one_more : (i : ℕ) → i + 1 ≡ 1 + i
      one_more i = omega arith

      one_past : (i : ℕ) → op + 1 + i ≡ op + (1 + i)
      one_past i = omega arith

  pub value-head : value (head_of w low op) z ≡ v + opcode_weight w p
  value-head =
      let number = value-bits_below s short in
      let weights = value-weighted (op + 1) 28 (λ j. opcode_weight w (j + 1)) z ∙ ap (λ n. n % P) sum_weights in
      let below = HasBits-below s in
      let op_below = at_below p row.within in
      let fits : v + opcode_weight w p < 2 ^ w = whole_below w width v (opcode_at p) below op_below in
      let word : 2 ^ w < P = grind arith in
      value-append (bits_combination low (w - 5)) (weighted (op + 1) 28 (λ j. opcode_weight w (j + 1))) z ∙ ap₂ (λ a b. (a + b) % P) number weights
      ∙ joined v (opcode_weight w p) (omega (arith, fits, word))
    where
      joined : (a b : ℕ) → a + b < P → (a + b % P) % P ≡ a + b
      joined a b h = omega arith

-- ---- what two words and their row say of the wires
module _ (z : List ℕ) (w : ℕ) (width : IsWidth w) (made : InstructionWires) (v p a : ℕ) (low : HasBits z made.low.first (w - 5) v)
    (row : IsOneHot z made.op 29 p) (second : HasBits z made.second.first w a) where
  abbrev h : ℕ
  h = v + opcode_weight w p

  decoded : slice_index z made.head ≡ h → slice_index z made.tail ≡ a → IsDecoded z w made h a
  decoded head tail =
      let below = HasBits-below low in
      let k = opcode_at p in
      let op_below = at_below p row.within in
      let op = whole_op w width v k below op_below in
      let used : is_used k ≡ true = at_used p row.within in
      let row_at : IsOneHot z made.op 29 (place_of k) = subst (IsOneHot z made.op 29) (sym (place_at p row.within)) row in
      let bit = HasBits-bit_at low (w - 6) (omega arith) in
      let imm_small : field (w - 6) 1 h < 2 = omega arith in
      let dest = value-bits_below (field_bits_are z (w - 5) made.low.first (w - 10) 4 1 v (omega arith) low) (omega arith) in
      let source = value-bits_below (field_bits_are z (w - 5) made.low.first (w - 14) 4 5 v (omega arith) low) (omega arith) in
      record {
        head_word = whole_below w width v k below op_below;
        tail_word = HasBits-below second;
        head = head;
        tail = tail;
        opcode = subst (IsOpcodeRow z made.op) (sym op) (record { used = used; row = row_at });
        imm = bit ∙ sym (whole_imm w width v k below op_below) ∙ by_parity (field (w - 6) 1 h) imm_small;
        dest = dest ∙ sym (whole_dest w width v k below op_below);
        source = source ∙ sym (whole_source w width v k below op_below);
        register = value-bits_below (word_reg_bits z w width made.second.first a second) (omega arith);
        second = second;
      }

-- ---- the circuit
one_times : (n : ℕ) → n < P → n * (1 % P) % P ≡ 1 % P → n ≡ 1
one_times n h e = omega arith

pub instruction_sound : InstructionIsSound
unfolding instruction_of new_bits_of here pure put ◌>>=◌
instruction_sound w width z next assigns meets =
    let low = new_bits_of (w - 5) next in
    let row = new_bits_of 29 low.next in
    let second = new_bits_of w row.next in
    let m1 = Meets-split z low.list _ meets in
    let m2 = Meets-split z row.list _ m1.1 in
    let m3 = Meets-split z second.list _ m2.1 in
    let sum = value-below (row_sum low.next 29) z in
    let ones = m3.1.0 in
    let head_at = second.next in
    let m4 = Meets-split z (kept_of (head_of w next low.next) head_at).list _ m3.1.1 in
    let tail_at = (kept_of (head_of w next low.next) head_at).next in
    let m5 = Meets-split z (kept_of (bits_combination row.next w) tail_at).list _ m4.1 in
    let v = binary_value z next (w - 5) in
    let a = binary_value z row.next w in
    let low_spells : HasBits z next (w - 5) v = bits_are z (w - 5) next assigns m1.0 in
    let second_spells : HasBits z row.next w a = bits_are z w row.next assigns m3.0 in
    let row_bits = (bits_are z 29 low.next assigns m2.0).bits in
    let product = ap (λ n. value (row_sum low.next 29) z * n % P) (sym (value-constant assigns 1)) ∙ ones ∙ value-constant assigns 1 in
    let one = row_of z low.next assigns row_bits (one_times (value (row_sum low.next 29) z) sum product) in
    let is : IsOneHot z low.next 29 one.number = record { within = one.within; hot = one.hot; cold = one.cold } in
    let head = kept_sound z head_at (head_of w next low.next) assigns m4.0 ∙ value-head z w width next low.next v one.number low_spells is in
    let tail = kept_sound z tail_at (bits_combination row.next w) assigns m5.0 ∙ value-bits_below second_spells (omega arith) in
    let made = (instruction_of w next).answer in
    let all = decoded z w width made v one.number a low_spells is second_spells head tail in
    rw (head, tail) all

one_at-bit : (v i : ℕ) → one_at v i < 2
one_at-bit v i = grind (arith, nat_tests)

pub instruction_met : (w : ℕ) → IsWidth w → (z : List ℕ) (next head tail : ℕ) → Assigns z → head < 2 ^ w → tail < 2 ^ w → is_used (decode w head tail).op ≡ true
    → HasFrom z next (instruction_values w head tail)
    → Meets z (instruction_of w next).list × ((slice_index z (instruction_of w next).answer.head ≡ head)
    × (slice_index z (instruction_of w next).answer.tail ≡ tail))
unfolding instruction_of new_bits_of here pure put ◌>>=◌
instruction_met w width z next head tail assigns head_word tail_word used has =
    let low = new_bits_of (w - 5) next in
    let row = new_bits_of 29 low.next in
    let second = new_bits_of w row.next in
    let k = field (w - 5) 5 head in
    let v = head % 2 ^ (w - 5) in
    let p = place_of k in
    let words : List ℕ = bits_values tail w ++ head ∷ tail ∷ [] in
    let h1 = HasFrom-after z next low.next (w - 5) (bits_values v (w - 5)) (opcode_values k ++ words) (length-bits v (w - 5))
    (new_bits_next (w - 5) next) has in
    let h2 = HasFrom-after z low.next row.next 29 (opcode_values k) words (length-each_below 29 (one_at p)) (new_bits_next 29 low.next) h1.1 in
    let h3 = HasFrom-after z row.next second.next w (bits_values tail w) (head ∷ tail ∷ []) (length-bits tail w) (new_bits_next w row.next) h2.1 in
    let each = has_each z low.next 29 (one_at p) h2.0 in
    let within = place_below k used in
    let is : IsOneHot z low.next 29 p = record {
      within = within;
      hot = each p within ∙ one_at-same p;
      cold = λ i h apart. each i h
          ∙ one_at-other p i apart;
    } in
    let v_below : v < 2 ^ (w - 5) = mod-lt head (pow_pos (w - 5)) in
    let low_spells = HasBits-from_values z next (w - 5) v v_below h1.0 in
    let second_spells = HasBits-from_values z row.next w tail tail_word h3.0 in
    let m1 = new_bits_complete z next (w - 5) v assigns h1.0 in
    let m2 = bits_met z 29 low.next assigns (λ i h. subst IsBit (sym (each i h)) (one_at-bit p i)) in
    let m3 = new_bits_complete z row.next w tail assigns h3.0 in
    let one : value (row_sum low.next 29) z ≡ 1 % P = value-onehot z low.next 29 p (λ _. 1) is in
    let ones = ap₂ (λ a b. a * b % P) one (value-constant assigns 1) ∙ sym (value-constant assigns 1) in
    let same : v + opcode_weight w p ≡ head = ap (λ n. v + n * 2 ^ (w - 5)) (at_place k used) ∙ whole_again w width head head_word in
    let m4 = kept_complete z second.next (head_of w next low.next) assigns (h3.1.0 ∙ sym (value-head z w width next low.next v p low_spells is ∙ same), tt) in
    let m5 = kept_complete z (kept_of (head_of w next low.next) second.next).next (bits_combination row.next w) assigns
    (tail_had z second.next (head_of w next low.next) tail h3.1.1.0 ∙ sym (value-bits_below second_spells (omega arith)), tt) in (
      Meets-join z low.list _ m1 (Meets-join z row.list _ m2
          (Meets-join z second.list _ m3 (
            ones,
            Meets-join z (kept_of (head_of w next low.next) second.next).list _ m4
                (Meets-join z (kept_of (bits_combination row.next w) _).list _ m5 tt),
          ))),
      (
        ap (slice_index z) (kept_answer (head_of w next low.next) second.next) ∙ h3.1.0,
        ap (slice_index z) (kept_answer (bits_combination row.next w) (kept_of (head_of w next low.next) second.next).next)
            ∙ tail_had z second.next (head_of w next low.next) tail h3.1.1.0,
      ),
    )
  where
    tail_had : (z : List ℕ) (at : ℕ) (x : Combination) (tail : ℕ) → slice_index z (at + 1) ≡ tail → slice_index z (kept_of x at).next ≡ tail
    tail_had z at x tail e = ap (slice_index z) (kept_next x at) ∙ e

pub instruction_complete : InstructionIsComplete
instruction_complete w width z next head tail assigns head_word tail_word used has =
    let met = instruction_met w width z next head tail assigns head_word tail_word used has in
    let sound = instruction_sound w width z next assigns met.0 in (
      met.0,
      subst (λ a. IsDecoded z w (instruction_of w next).answer head a) met.1.1
          (subst (λ h. IsDecoded z w (instruction_of w next).answer h (slice_index z (instruction_of w next).answer.tail)) met.1.0 sound),
    )

-- ---- where the circuit ends, and what it answers
pub instruction_end : (w : ℕ) → IsWidth w → (next : ℕ) → (instruction_of w next).next ≡ next + (2 * w + 26)
unfolding instruction_of here pure put ◌>>=◌
instruction_end w width next = search (arith, new_bits_next, kept_next)

pub instruction_answer : (w next : ℕ) → (instruction_of w next).answer ≡ instruction_wires w next
unfolding instruction_of times_of new_bits_of here fresh put pure ◌>>=◌
instruction_answer w next =
    let low = new_bits_of (w - 5) next in
    let row = new_bits_of 29 low.next in
    let e1 = new_bits_next (w - 5) next in
    let e2 = new_bits_next 29 low.next in
    let e3 = new_bits_next w row.next in
    search arith

length-instruction : (w : ℕ) → IsWidth w → (head tail : ℕ) → length (instruction_values w head tail) ≡ 2 * w + 26
length-instruction w width head tail =
    search (arith, length-append, length-bits, length-each_below)

instruction_in_field : (w : ℕ) → IsWidth w → (head tail : ℕ) → head < 2 ^ w → tail < 2 ^ w → InField (instruction_values w head tail)
instruction_in_field w width head tail hs ts =
    let p = place_of (field (w - 5) 5 head) in
    let word : 2 ^ w < P = grind arith in
    let both = InField-cons head (tail ∷ []) (omega (arith, hs, word)) (InField-cons tail [] (omega (arith, ts, word)) InField-none) in
    let row = InField-each_below (one_at p) (λ i. let bit = one_at-bit p i in omega arith) 29 in
    InField-append _ _ (bits_in_field (head % 2 ^ (w - 5)) (w - 5)) (InField-append _ _ row (InField-append _ _ (bits_in_field tail w) both))

pub instruction_sizes : InstructionSizes
instruction_sizes = record {
  answer = instruction_answer;
  end = instruction_end;
  fills = λ w width head tail next. instruction_end w width next ∙ ap (λ k. next + k) (sym (length-instruction w width head tail));
  in_field = instruction_in_field;
}

-- ---- how many constraints and terms
pub instruction_costs : InstructionCosts
unfolding instruction_of new_bits_of new_bit bit_of times_of turns here fresh put pure ◌>>=◌ weighted
instruction_costs = record {
  constraints = λ w width next. for_widths (λ w. length (instruction_of w next).list ≡ 2 * w + 27) refl refl w width;
  terms = λ w width next. for_widths (λ w. terms_in (instruction_of w next).list ≡ 8 * w + 130) refl refl w width;
}

pub ruleset instruction_laws = (instruction_sound, instruction_complete, instruction_sizes, instruction_costs)
