-- A number as the sum of its pairs of bits.
use Rattle.tv_core.proofs.Common.{◌≡◌, ℕ, zero, suc, ◌+◌, ◌-◌, ◌*◌, ◌/◌, ◌%◌, ◌^◌, ◌<◌, sym, ◌∙◌, ap, ap₂, arith, mod-eq_of_lt, bit_at, IsWidth}
use Rattle.std.proofs.Common.{min, bit_and, mul_assoc}
use Rattle.std.proofs.lemmas.Nat.{pow-add, and_le_l}
use Rattle.std.proofs.lemmas.Nat.Bits.{bit_at-lt, bit_at_and}
use Rattle.tv_bits.proofs.BitNumbers.{sum_below-plus, picked-bit_at}
use Rattle.tv_bits.specs.Pairs.{two_ands}
use Rattle.tv_core.proofs.BelowLaws.{sum_below-zero, sum_below-suc, sum_below-same, sum_below-add, sum_below-mul}
use Rattle.tv_core.specs.Below.{sum_below}
use Rattle.tv_core.specs.declared.field.TheConstants.{P}
use Rattle.tv_logic.specs.Ands.{pair_in}

-- the pairs, each times its power of 2, are the number's bits
pairs-sum : (h a : ℕ) → sum_below h (λ i. 2 ^ i * (bit_at a i + 2 ^ h * bit_at a (h + i))) ≡ a % 2 ^ (h + h)
pairs-sum h a =
    let bit : ℕ → ℕ = λ i. 2 ^ i * bit_at a i in
    let each : (i : ℕ) → 2 ^ i * (bit_at a i + 2 ^ h * bit_at a (h + i))
    ≡ bit i + bit (h + i) = λ i. omega (arith, ap (λ k. k * bit_at a (h + i)) (pow-add 2 h i)) in
    sum_below-same h (λ i. 2 ^ i * (bit_at a i + 2 ^ h * bit_at a (h + i))) (λ i. bit i + bit (h + i)) (λ i k. each i)
    ∙ sum_below-plus h bit (λ i. bit (h + i))
    ∙ sym (sum_below-add h h bit)
    ∙ picked-bit_at (h + h) a

-- the first term apart, and 2 taken out of the others
first-apart : (n : ℕ) (p : ℕ → ℕ) → sum_below (1 + n) (λ i. 2 ^ i * p i) ≡ p 0 + 2 * sum_below n (λ i. 2 ^ i * p (i + 1))
first-apart n p =
    let f : ℕ → ℕ = λ i. 2 ^ i * p i in
    let one : (i : ℕ) → 1 + i ≡ i + 1 = λ i. omega arith in
    let each : (i : ℕ) → f (1 + i) ≡ 2 * (2 ^ i * p (i + 1)) = λ i. ap₂ (λ e k. e * p k) (pow-add 2 1 i) (one i) ∙ mul_assoc 2 (2 ^ i) (p (i + 1)) in
    let others = sum_below-same n (λ i. f (1 + i)) (λ i. 2 * (2 ^ i * p (i + 1))) (λ i k. each i) ∙ sum_below-mul 2 n (λ i. 2 ^ i * p (i + 1)) in
    omega (arith, sum_below-add 1 n f, sum_below-suc 0 f, sum_below-zero f, others)

-- a word is its lowest pair and twice the sum of the others
pub word-pairs : (w : ℕ) → IsWidth w → (a : ℕ) → a < 2 ^ w → a ≡ pair_in w a 0 + 2 * sum_below (w / 2 - 1) (λ i. 2 ^ i * pair_in w a (i + 1))
word-pairs w width a h =
    let halves : w / 2 + w / 2 ≡ w = omega arith in
    let one : w / 2 ≡ 1 + (w / 2 - 1) = omega arith in
    sym (mod-eq_of_lt h)
    ∙ ap (λ n. a % 2 ^ n) (sym halves)
    ∙ sym (pairs-sum (w / 2) a)
    ∙ ap (λ n. sum_below n (λ i. 2 ^ i * pair_in w a i)) one
    ∙ first-apart (w / 2 - 1) (pair_in w a)

-- two bits, the second half a word above the first
pair-number : (w : ℕ) → IsWidth w → (m n : ℕ) → m < 2 → n < 2 → (m + 2 ^ (w / 4) * 2 ^ (w / 4) * n) % P ≡ m + 2 ^ (w / 2) * n
pair-number w width m n h k = grind arith

pub pair_in-small : (w : ℕ) → IsWidth w → (a i : ℕ) → pair_in w a i < P
pair_in-small w width a i = small (bit_at a i) (bit_at a (w / 2 + i)) (bit_at-lt a i) (bit_at-lt a (w / 2 + i))
  where
    small : (m n : ℕ) → m < 2 → n < 2 → m + 2 ^ (w / 2) * n < P
    small m n h k = grind arith

-- the ands of a pair of bits are the pair of the and
bit-product : (a b i : ℕ) → bit_at a i * bit_at b i ≡ bit_at (bit_and a b) i
bit-product a b i = products (bit_at a i) (bit_at b i) (bit_at-lt a i) (bit_at-lt b i) ∙ sym (bit_at_and a b i)
  where
    products : (m n : ℕ) → m < 2 → n < 2 → m * n ≡ min m n
    products zero n h k = omega arith
    products (suc zero) n h k = omega arith
    products (suc (suc m)) n h k = absurd (omega arith)

pub pair-ands : (w : ℕ) → IsWidth w → (a b i : ℕ)
    → two_ands (bit_at a i) (bit_at b i) (bit_at a (w / 2 + i)) (bit_at b (w / 2 + i)) (2 ^ (w / 4)) ≡ pair_in w (bit_and a b) i
pair-ands w width a b i = search (arith, bit-product, pair-number, bit_and, bit_at-lt)

pub and-below : (w a b : ℕ) → a < 2 ^ w → bit_and a b < 2 ^ w
and-below w a b h = omega (arith, and_le_l a b)
