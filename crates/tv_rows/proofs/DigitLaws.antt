-- The laws of the bitwise operations as digits.
use Rattle.tv_core.proofs.Common.{◌≡◌, ℕ, ◌+◌, ◌-◌, ◌*◌, ◌/◌, ◌%◌, ◌^◌, ◌≤◌, List, ◌++◌, length, refl, sym, ◌∙◌, ap, ap₂, arith, zero-mul, mod-eq_of_lt, bit_at}
use Rattle.tv_core.proofs.Common.{slice_index, value-below, value-append, InField-none, put, ◌>>=◌, Combination, value, Meets, IsWidth}
use Rattle.std.proofs.Common.{bit_and, bit_xor, length-append, add-zero, mul-zero, one-mul}
use Rattle.std.proofs.Math.Nat.{mul_assoc}
use Rattle.std.proofs.lemmas.Nat.{mul-mod_first}
use Rattle.tv_bits.proofs.BitNumbers.{HasBits-below, HasBits-bit_at, sum_below-plus}
use Rattle.tv_bits.specs.Bits.{HasBits}
use Rattle.tv_bits.specs.DoubleRow.{HasRowBits}
use Rattle.tv_bits.specs.declared.bit_wires.Bits.{Bits}
use Rattle.tv_bits.specs.declared.double_rows.DoubleRow.{DoubleRow}
use Rattle.tv_core.proofs.BelowLaws.{sum_below-mod_same, sum_below-same, sum_below-mul, value-weighted, length-weighted}
use Rattle.tv_core.specs.declared.field.TheConstants.{P}
use Rattle.tv_rows.proofs.DigitNumbers.{number_of, sums, parts, SameDigits, bitwise_from, same_digits, bitwise_row, or_sum}
use Rattle.tv_rows.specs.Digits.{digits_combination, digit_sum, digits_of, bitwise_of, AreBitwise}
use Rattle.tv_rows.specs.Digits.{BitwiseIsSound, BitwiseIsComplete, BitwiseSizes, BitwiseCosts}
use Rattle.tv_rows.specs.declared.digits.TheConstants.{BASE}

-- the bits of a word from number `from` on
abbrev bits_from : ℕ → ℕ → ℕ → ℕ
bits_from v from j = bit_at v (from + j)

-- ---- the value of digits
value-digits : (z : List ℕ) (k first w v from n : ℕ) → HasBits z first w v → from + n ≤ w
    → value (digits_combination k (first + from) n) z ≡ k * number_of n (bits_from v from) % P
value-digits z k first w v from n s within =
    value-weighted (first + from) n (λ j. k * BASE ^ j % P) z
    ∙ sum_below-mod_same n (λ j. k * BASE ^ j % P * slice_index z (first + from + j)) (λ j. k * (BASE ^ j * bits_from v from j)) P
    (λ j h. mul-mod_first (k * BASE ^ j) (slice_index z (first + from + j)) P
    ∙ (let place : first + from + j ≡ first + (from + j) = omega arith in ap (λ i. k * BASE ^ j * slice_index z i % P) place)
    ∙ ap (λ b. k * BASE ^ j * b % P) (HasBits-bit_at s (from + j) (omega arith))
    ∙ ap (λ m. m % P) (mul_assoc k (BASE ^ j) (bits_from v from j)))
    ∙ ap (λ m. m % P) (sum_below-mul k n (λ j. BASE ^ j * bits_from v from j))

number-plus : (n : ℕ) (d e : ℕ → ℕ) → number_of n (λ j. d j + e j) ≡ number_of n d + number_of n e
number-plus n d e =
    sum_below-same n (λ j. BASE ^ j * (d j + e j)) (λ j. BASE ^ j * d j + BASE ^ j * e j) (λ j h. omega arith)
    ∙ sum_below-plus n (λ j. BASE ^ j * d j) (λ j. BASE ^ j * e j)

number-twice : (n : ℕ) (d : ℕ → ℕ) → number_of n (λ j. 2 * d j) ≡ 2 * number_of n d
number-twice n d =
    sum_below-same n (λ j. BASE ^ j * (2 * d j)) (λ j. 2 * (BASE ^ j * d j)) (λ j h. omega arith) ∙ sum_below-mul 2 n (λ j. BASE ^ j * d j)

-- the sum of four, as residues, and that it is 0 where the first two are the others
flat : (p q r s : ℕ) → (1 * q % P + (1 * p % P + ((P - 2) * r % P + (P - 1) * s % P) % P) % P) % P ≡ (p + q + (P - 2) * r + (P - 1) * s) % P
flat p q r s = omega arith

none_same : (p q r s : ℕ) → (p + q + (P - 2) * r + (P - 1) * s) % P ≡ 0 → (p + q) % P ≡ (2 * r + s) % P
none_same p q r s e = omega arith

same_none : (p q r s : ℕ) → (p + q) % P ≡ (2 * r + s) % P → (p + q + (P - 2) * r + (P - 1) * s) % P ≡ 0
same_none p q r s e = omega arith

module _ (z : List ℕ) (w n x y row a b both one from : ℕ) (within : from + n ≤ w)
    (p : HasBits z x w a) (q : HasBits z y w b) (r : HasBits z row w both) (s : HasBits z (row + w) w one) where
  abbrev digits : ℕ → ℕ
  digits v = number_of n (bits_from v from)

  value-sum : value (digit_sum w n (x + from) (y + from) (row + from)) z ≡ (digits a + digits b + (P - 2) * digits both + (P - 1) * digits one) % P
  value-sum =
      let place : row + from + w ≡ row + w + from = omega arith in
      let xs = digits_combination 1 (x + from) n in
      let ys = digits_combination 1 (y + from) n in
      let boths = digits_combination (P - 2) (row + from) n in
      let ones = digits_combination (P - 1) (row + from + w) n in
      let last = ap (λ k. value (digits_combination (P - 1) k n) z) place ∙ value-digits z (P - 1) (row + w) w one from n s within in
      let third = value-append boths ones z ∙ ap₂ (λ i j. (i + j) % P) (value-digits z (P - 2) row w both from n r within) last in
      let second = value-append xs (boths ++ ones) z ∙ ap₂ (λ i j. (i + j) % P) (value-digits z 1 x w a from n p within) third in
      value-append ys (xs ++ (boths ++ ones)) z ∙ ap₂ (λ i j. (i + j) % P) (value-digits z 1 y w b from n q within) second
      ∙ flat (digits a) (digits b) (digits both) (digits one)

  left : number_of n (sums a b from) ≡ digits a + digits b
  left = number-plus n (bits_from a from) (bits_from b from)

  right : number_of n (parts both one from) ≡ 2 * digits both + digits one
  right = number-plus n (λ j. 2 * bits_from both from j) (bits_from one from) ∙ ap (λ k. k + digits one) (number-twice n (bits_from both from))

  -- the digits are the same where the number is 0, and the other way round
  same_of_none : value (digit_sum w n (x + from) (y + from) (row + from)) z ≡ 0 → number_of n (sums a b from) % P ≡ number_of n (parts both one from) % P
  same_of_none none = ap (λ k. k % P) left ∙ none_same (digits a) (digits b) (digits both) (digits one) (sym value-sum ∙ none) ∙ ap (λ k. k % P) (sym right)

  none_of_same : number_of n (sums a b from) % P ≡ number_of n (parts both one from) % P → value (digit_sum w n (x + from) (y + from) (row + from)) z ≡ 0
  none_of_same same =
      value-sum ∙ same_none (digits a) (digits b) (digits both) (digits one) (ap (λ k. k % P) (sym left) ∙ same ∙ ap (λ k. k % P) right)

-- ---- the constraint
gate_on : (z : List ℕ) (gate sum : Combination) → value gate z ≡ 1 → value gate z * value sum z % P ≡ 0 → value sum z ≡ 0
gate_on z gate sum one holds =
    sym (mod-eq_of_lt (value-below sum z)) ∙ ap (λ n. n % P) (sym (one-mul (value sum z))) ∙ ap (λ n. n * value sum z % P) (sym one) ∙ holds

gate_met : (z : List ℕ) (gate sum : Combination) → value sum z ≡ 0 → value gate z * value sum z % P ≡ 0
gate_met z gate sum none = ap (λ n. value gate z * n % P) none ∙ ap (λ n. n % P) (mul-zero (value gate z))

gate_off : (z : List ℕ) (gate sum : Combination) → value gate z ≡ 0 → value gate z * value sum z % P ≡ 0
gate_off z gate sum none = ap (λ n. n * value sum z % P) none ∙ ap (λ n. n % P) (zero-mul (value sum z))

-- the digits from the first wires on are those from number 0 on
from_first : (w n x y row : ℕ) → digit_sum w n x y row ≡ digit_sum w n (x + 0) (y + 0) (row + 0)
from_first w n x y row = search (arith, add-zero)

abbrev low_sum : ℕ → Bits → Bits → DoubleRow → Combination
low_sum w x y row = digit_sum w (w / 2) x.first y.first row.first

abbrev high_sum : ℕ → Bits → Bits → DoubleRow → Combination
high_sum w x y row = digit_sum w (w / 2) (x.first + w / 2) (y.first + w / 2) (row.first + w / 2)

-- ---- the laws
module _ (w : ℕ) (width : IsWidth w) (z : List ℕ) (next : ℕ) (gate : Combination) (x y : Bits) (row : DoubleRow) (a b : ℕ)
    (p : HasBits z x.first w a) (q : HasBits z y.first w b) (r : HasRowBits w z row) where
  abbrev both : ℕ
  both = slice_index z row.low

  abbrev one : ℕ
  one = slice_index z row.high

  half_within : 0 + w / 2 ≤ w
  half_within = grind arith

  halves_within : w / 2 + w / 2 ≤ w
  halves_within = grind arith

  low_digits : value (low_sum w x y row) z ≡ 0 → SameDigits w 0 a b both one
  low_digits none = search (arith, same_of_none, half_within, from_first)

  high_digits : value (high_sum w x y row) z ≡ 0 → SameDigits w (w / 2) a b both one
  high_digits none = same_of_none z w (w / 2) x.first y.first row.first a b both one (w / 2) halves_within p q r.low r.high none

  sound : value gate z ≡ 1 → Meets z (bitwise_of w gate x y row next).list → AreBitwise both one a b
  unfolding bitwise_of digits_of put ◌>>=◌
  sound gate_is meets =
      let low = low_digits (gate_on z gate (low_sum w x y row) gate_is meets.0) in
      let high = high_digits (gate_on z gate (high_sum w x y row) gate_is meets.1.0) in
      let words = bitwise_from w width a b (HasBits-below p) (HasBits-below q) both one (HasBits-below r.low) (HasBits-below r.high) low high in
      record { and_word = words.0; xor_word = words.1; or_word = ap₂ (λ m n. m + n) words.0 words.1 ∙ sym (or_sum a b) }

  digits_at : (from : ℕ) → both ≡ bit_and a b → one ≡ bit_xor a b → SameDigits w from a b both one
  digits_at from e f = rw (e, f) (same_digits w from a b)

  complete : both ≡ bit_and a b → one ≡ bit_xor a b → Meets z (bitwise_of w gate x y row next).list
  unfolding bitwise_of digits_of put ◌>>=◌
  complete e f =
      let low = ap (λ c. value c z) (from_first w (w / 2) x.first y.first row.first)
      ∙ none_of_same z w (w / 2) x.first y.first row.first a b both one 0 half_within p q r.low r.high (digits_at 0 e f) in
      let high = none_of_same z w (w / 2) x.first y.first row.first a b both one (w / 2) halves_within p q r.low r.high (digits_at (w / 2) e f) in
      (gate_met z gate (low_sum w x y row) low, (gate_met z gate (high_sum w x y row) high, tt))

off : (w : ℕ) (z : List ℕ) (next : ℕ) (gate : Combination) (x y : Bits) (row : DoubleRow) → value gate z ≡ 0
    → Meets z (bitwise_of w gate x y row next).list
unfolding bitwise_of digits_of put ◌>>=◌
off w z next gate x y row none = (gate_off z gate (low_sum w x y row) none, (gate_off z gate (high_sum w x y row) none, tt))

pub bitwise_sound : BitwiseIsSound
bitwise_sound w width z next gate x y row a b assigns p q r gate_is meets = sound w width z next gate x y row a b p q r gate_is meets

pub bitwise_complete : BitwiseIsComplete
bitwise_complete = record {
  on = λ w width z next gate x y row a b assigns p q r e f. complete w width z next gate x y row a b p q r e f;
  off = off;
  row = bitwise_row;
}

-- ---- sizes and costs
pub bitwise_sizes : BitwiseSizes
unfolding bitwise_of digits_of put ◌>>=◌
bitwise_sizes = record { end = λ w gate x y row next. refl; fills = λ w gate x y row next. sym (add-zero next); in_field = InField-none }

length-digits : (k first n : ℕ) → length (digits_combination k first n) ≡ n
length-digits k first n = length-weighted first n (λ j. k * BASE ^ j % P)

length-sum : (w n x y row : ℕ) → length (digit_sum w n x y row) ≡ 4 * n
length-sum w n x y row = search (arith, length-append, length-digits)

halved : (w : ℕ) → IsWidth w → 2 * (w / 2) ≡ w
halved w width = grind arith

pub bitwise_cost_laws : BitwiseCosts
unfolding bitwise_of digits_of put ◌>>=◌
bitwise_cost_laws = record { constraints = λ w gate x y row next. refl; terms = λ w width gate x y row next. search (arith, length-sum, halved) }
