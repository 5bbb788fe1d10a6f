-- Numbers by their digits, and the bitwise operations of words by theirs.
use Rattle.tv_core.proofs.Common.{◌≡◌, ℕ, zero, suc, ◌+◌, ◌-◌, ◌*◌, ◌/◌, ◌%◌, ◌^◌, ◌<◌, ◌≤◌, inl, inr, sym, ◌∙◌, ap, arith, bit_at, cases_eq, cases_lt, IsWidth}
use Rattle.std.proofs.Common.{mul_comm, min, bit_and, bit_or, bit_xor}
use Rattle.std.specs.Int.Bits.{and_lt, or_add_and, xor_add_and}
use Rattle.std.proofs.Math.Nat.{pow-suc, mul-le-mul_left}
use Rattle.std.proofs.lemmas.Nat.{div-mul-add, mod-mul-add, xor_lt, or_lt}
use Rattle.std.proofs.lemmas.Nat.Bits.{bit_at-lt, bit_at_and, bit_at_xor, same_from_bits_below}
use Rattle.tv_bits.specs.Bit.{IsBit}
use Rattle.tv_bits.specs.DoubleRow.{IsRow}
use Rattle.tv_core.proofs.BelowLaws.{sum_below-zero, sum_below-suc, sum_below-same}
use Rattle.tv_core.specs.Below.{sum_below}
use Rattle.tv_core.specs.declared.field.TheConstants.{P}
use Rattle.tv_rows.specs.declared.digits.TheConstants.{BASE}

-- the number of n digits
abbrev pub number_of : ℕ → (ℕ → ℕ) → ℕ
number_of n d = sum_below n (λ j. BASE ^ j * d j)

-- a digit is below the base
abbrev pub AreDigits : ℕ → (ℕ → ℕ) → Type 0
AreDigits n d = (j : ℕ) → j < n → d j ≤ BASE - 1

fewer : (n : ℕ) (d : ℕ → ℕ) → AreDigits (suc n) d → AreDigits n d
fewer n d small j h = small j (omega arith)

number-below : (n : ℕ) (d : ℕ → ℕ) → AreDigits n d → number_of n d < BASE ^ n
number-below zero d small = omega (arith, sum_below-zero (λ j. BASE ^ j * d j))
number-below (suc n) d small =
    let rest = number-below n d (fewer n d small) in
    let last = mul-le-mul_left (BASE ^ n) (small n (omega arith)) in
    omega (arith, sum_below-suc n (λ j. BASE ^ j * d j), pow-suc BASE n)

-- the same number has the same digits: the top one, and what is left
top_same : (b p q r s : ℕ) → r < b → s < b → r + b * p ≡ s + b * q → (p ≡ q) × (r ≡ s)
top_same b p q r s h k e =
    let turned : p * b + r ≡ q * b + s = omega (
      arith,
      mul_comm b p,
      mul_comm b q,
    ) in (
      sym (div-mul-add p b r h) ∙ ap (λ n. n / b) turned ∙ div-mul-add q b s k,
      sym (mod-mul-add p b r h) ∙ ap (λ n. n % b) turned ∙ mod-mul-add q b s k,
    )

number-same : (n : ℕ) (d e : ℕ → ℕ) → AreDigits n d → AreDigits n e → number_of n d ≡ number_of n e → (j : ℕ) → j < n → d j ≡ e j
number-same zero d e small little same j h = absurd (omega arith)
number-same (suc n) d e small little same j h =
    let d_less = number-below n d (fewer n d small) in
    let e_less = number-below n e (fewer n e little) in
    let whole = sym (sum_below-suc n (λ j. BASE ^ j * d j)) ∙ same ∙ sum_below-suc n (λ j. BASE ^ j * e j) in
    let both = top_same (BASE ^ n) (d n) (e n) (number_of n d) (number_of n e) d_less e_less whole in
    elim (cases_eq j n) [
      | inl last ↦ ap d last ∙ both.0 ∙ ap e (sym last)
      | inr lower ↦ number-same n d e (fewer n d small) (fewer n e little) both.1 j (omega arith)
    ]

-- also modulo P, of half a word's digits
number-mod_same : (w : ℕ) → IsWidth w → (d e : ℕ → ℕ) → AreDigits (w / 2) d → AreDigits (w / 2) e
    → number_of (w / 2) d % P ≡ number_of (w / 2) e % P → (j : ℕ) → j < w / 2 → d j ≡ e j
number-mod_same w width d e small little same =
    let below = number-below (w / 2) d small in
    let under = number-below (w / 2) e little in
    let a : number_of (w / 2) d < P = grind arith in
    let b : number_of (w / 2) e < P = grind arith in
    number-same (w / 2) d e small little (omega arith)

-- ---- the bitwise operations: of two words, and of the word of the bits in both and that of the bits in one of them
-- the digits from number `from` on
abbrev pub sums : ℕ → ℕ → ℕ → ℕ → ℕ
sums a b from j = bit_at a (from + j) + bit_at b (from + j)

abbrev pub parts : ℕ → ℕ → ℕ → ℕ → ℕ
parts both one from j = 2 * bit_at both (from + j) + bit_at one (from + j)

-- what a constraint says of half of the digits
abbrev pub SameDigits : ℕ → ℕ → ℕ → ℕ → ℕ → ℕ → Type 0
SameDigits w from a b both one = number_of (w / 2) (sums a b from) % P ≡ number_of (w / 2) (parts both one from) % P

-- a digit
digit : (x y m r : ℕ) → IsBit x → IsBit y → IsBit m → IsBit r → x + y ≡ 2 * m + r → (m ≡ min x y) × (r ≡ (x + y) % 2)
digit x y m r h k l o e = (omega arith, omega arith)

digit_back : (x y : ℕ) → IsBit x → IsBit y → x + y ≡ 2 * min x y + (x + y) % 2
digit_back x y h k = omega arith

module _ (w : ℕ) (width : IsWidth w) (a b : ℕ) (h : a < 2 ^ w) (k : b < 2 ^ w) where
  module _ (both one : ℕ) (l : both < 2 ^ w) (o : one < 2 ^ w) where
    half : (from : ℕ) → SameDigits w from a b both one → (j : ℕ) → j < w / 2 → sums a b from j ≡ parts both one from j
    half from same =
        number-mod_same w width (sums a b from) (parts both one from) (λ j h. omega (arith, bit_at-lt a (from + j), bit_at-lt b (from + j)))
        (λ j h. omega (arith, bit_at-lt both (from + j), bit_at-lt one (from + j))) same

    each_digit : SameDigits w 0 a b both one → SameDigits w (w / 2) a b both one → (i : ℕ) → i < w → bit_at a i + bit_at b i ≡ 2 * bit_at both i + bit_at one i
    each_digit low high i below = elim (cases_lt i (w / 2)) [
      | inl less ↦ let same : 0 + i ≡ i = omega arith in rw same at (half 0 low i less)
      | inr more ↦ let same : w / 2 + (i - w / 2) ≡ i = omega arith in rw same at (half (w / 2) high (i - w / 2) (grind arith))
    ]

    pub bitwise_from : SameDigits w 0 a b both one → SameDigits w (w / 2) a b both one → (both ≡ bit_and a b) × (one ≡ bit_xor a b)
    bitwise_from low high =
        let each : (i : ℕ) → i < w → (bit_at both i ≡ min (bit_at a i) (bit_at b i)) × (bit_at one i ≡ (bit_at a i + bit_at b i) % 2) =
        λ i below. digit (bit_at a i) (bit_at b i) (bit_at both i) (bit_at one i) (bit_at-lt a i) (bit_at-lt b i) (bit_at-lt both i) (bit_at-lt one i)
        (each_digit low high i below) in (
          same_from_bits_below w both (bit_and a b) l (and_lt w a b h k) (λ i below. (each i below).0 ∙ sym (bit_at_and a b i)),
          same_from_bits_below w one (bit_xor a b) o (xor_lt w a b h k) (λ i below. (each i below).1 ∙ sym (bit_at_xor a b i)),
        )

-- and the other way round
pub same_digits : (w from a b : ℕ) → SameDigits w from a b (bit_and a b) (bit_xor a b)
same_digits w from a b = search (arith, ℕ, bit_and, bit_xor, digit_back, bit_at-lt, bit_at_and, bit_at_xor, sum_below-same)

-- the or is their sum, and where all bits of the exclusive or are set there is none in both: they are a row
pub or_sum : (a b : ℕ) → bit_or a b ≡ bit_and a b + bit_xor a b
or_sum a b = omega (arith, or_add_and a b, xor_add_and a b)

pub bitwise_row : (w : ℕ) → IsWidth w → (a b : ℕ) → a < 2 ^ w → b < 2 ^ w → IsRow w (bit_and a b) (bit_xor a b)
bitwise_row w width a b h k = record {
  low_word = and_lt w a b h k;
  high_word = xor_lt w a b h k;
  edge = λ full. let below = or_lt w a b h k in let sum = or_sum a b in grind arith;
}
