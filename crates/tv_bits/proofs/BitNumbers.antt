-- What wires represent: the number's bits, its parts, and the value of the combination of their powers.
use Rattle.tv_core.proofs.Common.{◌≡◌, ◌≢◌, ℕ, zero, suc, ◌+◌, ◌-◌, ◌*◌, ◌/◌, ◌%◌, ◌^◌, ◌<◌, ◌≤◌, List, [], ◌∷◌, ◌++◌, inl, inr, refl, sym, subst, ◌∙◌, ap, ap₂}
use Rattle.tv_core.proofs.Common.{arith, mod-eq_of_lt, bit_at, slice_index, pow-le-pow_right, cases_eq, cases_lt, value-append, constant, scaled, value}
use Rattle.tv_core.proofs.Common.{Assigns, HasFrom}
use Rattle.std.proofs.Common.{mul_comm, mul_assoc, add_comm, zero-add}
use Rattle.std.proofs.Math.Nat.{pow-suc, mul-le-mul_left}
use Rattle.std.proofs.lemmas.List.{map-append}
use Rattle.std.proofs.lemmas.Nat.{pow-add, mod-pow-add, mul-mod_first, mul-mod_second, shr_high, mod_low}
use Rattle.std.proofs.lemmas.Nat.Bits.{bit_at-lt, bit_at_cat_low}
use Rattle.tv_core.proofs.BelowLaws.{sum_below-zero, sum_below-suc, sum_below-same, sum_below-mod_same, sum_below-add, sum_below-mul, weighted-zero}
use Rattle.tv_core.proofs.BelowLaws.{weighted-suc, value-weighted, has_each}
use Rattle.tv_core.proofs.CombinationLaws.{value-constant}
use Rattle.tv_core.specs.Below.{sum_below}
use Rattle.tv_core.specs.declared.field.TheConstants.{P}
use Rattle.tv_bits.specs.Bit.{IsBit}
use Rattle.tv_bits.specs.Bits.{HasBits, binary_value, bits_combination, bits_values}
use Rattle.tv_bits.specs.declared.bit_wires.Bits.{Bits}

-- n bits are their first wire and n
pub bits_sized : (n : ℕ) (x : Bits) → x.n ≡ n → x ≡ record { first = x.first; n = n }
bits_sized n x e = ap (λ k. record { first = x.first; n = k }) e

-- the sum of sums
pub sum_below-plus : (n : ℕ) (f g : ℕ → ℕ) → sum_below n (λ i. f i + g i) ≡ sum_below n f + sum_below n g
sum_below-plus zero f g = omega (arith, sum_below-zero (λ i. f i + g i), sum_below-zero f, sum_below-zero g)
sum_below-plus (suc n) f g = omega (arith, sum_below-suc n (λ i. f i + g i), sum_below-suc n f, sum_below-suc n g, sum_below-plus n f g)

-- a multiple of the combination, bit by bit
pub scaled-bits-zero : (k first : ℕ) → scaled k (bits_combination first 0) ≡ []
scaled-bits-zero k first = ap (scaled k) (weighted-zero first (λ i. 2 ^ i % P))

pub scaled-bits-suc : (k first n : ℕ) → scaled k (bits_combination first (suc n)) ≡ scaled k (bits_combination first n) ++ (k * 2 ^ n % P, first + n) ∷ []
scaled-bits-suc k first n = search (arith, weighted-suc, map-append, mul-mod_second)

-- once it is it
pub scaled-bits-once : (first n : ℕ) → scaled 1 (bits_combination first n) ≡ bits_combination first n
scaled-bits-once first zero = scaled-bits-zero 1 first ∙ sym (weighted-zero first (λ i. 2 ^ i % P))
scaled-bits-once first (suc n) =
    scaled-bits-suc 1 first n
    ∙ ap₂ (λ l c. l ++ (c, first + n) ∷ []) (scaled-bits-once first n) (let once : 1 * 2 ^ n % P ≡ 2 ^ n % P = omega arith in once)
    ∙ sym (weighted-suc first n (λ i. 2 ^ i % P))

-- the sum of powers of 2 that a function picks by 0 or 1
abbrev pub picked : ℕ → (ℕ → ℕ) → ℕ
picked n b = sum_below n (λ i. 2 ^ i * b i)

picked-suc : (n : ℕ) (b : ℕ → ℕ) → picked (suc n) b ≡ b n * 2 ^ n + picked n b
picked-suc n b = omega (arith, sum_below-suc n (λ i. 2 ^ i * b i))

-- it is below the next power, and has the bits that were picked
picked-below : (n : ℕ) (b : ℕ → ℕ) → ((i : ℕ) → i < n → IsBit (b i)) → picked n b < 2 ^ n
picked-below zero b bits = omega (arith, sum_below-zero (λ i. 2 ^ i * b i))
picked-below (suc n) b bits =
    let rest = picked-below n b (λ i h. bits i (omega arith)) in
    let last = mul-le-mul_left (2 ^ n) (let one : b n ≤ 1 = omega (arith, bits n (omega arith)) in one) in
    omega (arith, picked-suc n b, pow-suc 2 n)

bit_at-picked : (n i : ℕ) (b : ℕ → ℕ) → ((i : ℕ) → i < n → IsBit (b i)) → i < n → bit_at (picked n b) i ≡ b i
bit_at-picked zero i b bits h = absurd (omega arith)
bit_at-picked (suc n) i b bits h =
    let below : picked n b < 2 ^ n = picked-below n b (λ i h. bits i (omega arith)) in
    let last : b n < 2 = bits n (omega arith) in
    let lower : i ≢ n → bit_at (b n * 2 ^ n + picked n b) i ≡ b i =
    λ apart. bit_at_cat_low (b n) n (picked n b) i (omega arith) ∙ bit_at-picked n i b (λ i h. bits i (omega arith)) (omega arith) in
    let top : i ≡ n → bit_at (b n * 2 ^ n + picked n b) i ≡ b i =
    λ same. ap (λ k. bit_at (b n * 2 ^ n + picked n b) k) same ∙ ap (λ q. q % 2) (shr_high (b n) n (picked n b) below) ∙ mod-eq_of_lt last ∙ ap b (sym same) in
    ap (λ v. bit_at v i) (picked-suc n b) ∙ elim (cases_eq i n) [ inl same ↦ top same | inr apart ↦ lower apart ]

-- the bits of a number pick what is left of it below the power
pub picked-bit_at : (n v : ℕ) → picked n (bit_at v) ≡ v % 2 ^ n
picked-bit_at zero v = omega (arith, sum_below-zero (λ i. 2 ^ i * bit_at v i))
picked-bit_at (suc n) v =
    let same : 1 + n ≡ suc n = omega arith in
    picked-suc n (bit_at v) ∙ ap (λ r. bit_at v n * 2 ^ n + r) (picked-bit_at n v) ∙ sym (ap (λ k. v % 2 ^ k) (sym same) ∙ mod-pow-add v 1 n)

module _ {z : List ℕ} {first n v : ℕ} (s : HasBits z first n v) where
  pub HasBits-below : v < 2 ^ n
  HasBits-below = omega (arith, s.number, picked-below n (λ i. slice_index z (first + i)) s.bits)

  -- each wire holds the number's bit
  pub HasBits-bit_at : (i : ℕ) → i < n → slice_index z (first + i) ≡ bit_at v i
  HasBits-bit_at i h = sym (ap (λ k. bit_at k i) s.number ∙ bit_at-picked n i (λ i. slice_index z (first + i)) s.bits h)

  -- the value of the combination
  pub value-bits : value (bits_combination first n) z ≡ v % P
  value-bits = search (arith, value-weighted, sum_below-mod_same, mul-mod_first)

  pub HasBits-small : n ≤ 63 → v < P
  HasBits-small short = let power : 2 ^ n ≤ 2 ^ 63 = pow-le-pow_right (omega arith) short in omega (arith, HasBits-below)

  pub value-bits_below : n ≤ 63 → value (bits_combination first n) z ≡ v
  value-bits_below short = value-bits ∙ mod-eq_of_lt (HasBits-small short)

  -- and of one that is 1 more
  pub value-plus_one : Assigns z → n ≤ 62 → value (bits_combination first n ++ constant 1) z ≡ v + 1
  value-plus_one assigns short = search (arith, pow-le-pow_right, HasBits-below, value-append, value-bits_below, value-constant)

-- wires that hold the bits of a number below 2 ^ n represent it
pub HasBits-from_bits : (z : List ℕ) (first n v : ℕ) → v < 2 ^ n → ((i : ℕ) → i < n → slice_index z (first + i) ≡ bit_at v i) → HasBits z first n v
HasBits-from_bits z first n v below each = record {
  bits = λ i h. omega (arith, each i h, bit_at-lt v i);
  number = sym (sum_below-same n (λ i. 2 ^ i * slice_index z (first + i)) (λ i. 2 ^ i * bit_at v i) (λ i h. ap (λ b. 2 ^ i * b) (each i h)) ∙ picked-bit_at n v
      ∙ mod-eq_of_lt below);
}

pub HasBits-from_values : (z : List ℕ) (first n v : ℕ) → v < 2 ^ n → HasFrom z first (bits_values v n) → HasBits z first n v
HasBits-from_values z first n v below has = HasBits-from_bits z first n v below (has_each z first n (bit_at v) has)

-- a single bit represents the wire's number
binary_value-one : (z : List ℕ) (first : ℕ) → binary_value z first 1 ≡ slice_index z first
binary_value-one z first = search (arith, sum_below-suc, sum_below-zero, zero-add)

pub HasBits-one : (z : List ℕ) (first v : ℕ) → HasBits z first 1 v → slice_index z first ≡ v
HasBits-one z first v s = sym (s.number ∙ binary_value-one z first)

-- ---- parts: the low wires represent the remainder and the high wires the quotient by a power of 2, and two parts represent their sum
binary_value-parts : (z : List ℕ) (first m n : ℕ) → binary_value z first (m + n) ≡ binary_value z (first + m) n * 2 ^ m + binary_value z first m
binary_value-parts z first m n =
    let term : (i : ℕ) → 2 ^ (m + i) * slice_index z (first + (m + i)) ≡ 2 ^ m * (2 ^ i * slice_index z (first + m + i)) =
    λ i. ap₂ (λ p w. p * slice_index z w) (pow-add 2 m i) (add_assoc' first m i) ∙ mul_assoc (2 ^ m) (2 ^ i) (slice_index z (first + m + i)) in
    let high = sum_below-same n (λ i. 2 ^ (m + i) * slice_index z (first + (m + i))) (λ i. 2 ^ m * (2 ^ i * slice_index z (first + m + i))) (λ i h. term i) in
    let factor = sum_below-mul (2 ^ m) n (λ i. 2 ^ i * slice_index z (first + m + i)) in
    sum_below-add m n (λ i. 2 ^ i * slice_index z (first + i)) ∙ ap (λ k. binary_value z first m + k) (high ∙ factor ∙ mul_comm (2 ^ m) (binary_value z
    (first + m) n))
    ∙ add_comm (binary_value z first m) (binary_value z (first + m) n * 2 ^ m)
  where
    add_assoc' : (a b c : ℕ) → a + (b + c) ≡ a + b + c
    add_assoc' a b c = omega arith

low_bits : (z : List ℕ) (first m n : ℕ) → ((i : ℕ) → i < m + n → IsBit (slice_index z (first + i))) → HasBits z first m (binary_value z first m)
low_bits z first m n bits = record { bits = λ i h. bits i (omega arith); number = refl }

high_bits : (z : List ℕ) (first m n : ℕ) → ((i : ℕ) → i < m + n → IsBit (slice_index z (first + i))) → HasBits z (first + m) n (binary_value z (first + m) n)
high_bits z first m n bits = record {
  bits = λ i h. let same : first + (m + i) ≡ first + m + i = omega arith in subst (λ k. IsBit (slice_index z k)) same (bits (m + i) (omega arith));
  number = refl;
}

pub HasBits-low : (z : List ℕ) (first m n v : ℕ) → HasBits z first (m + n) v → HasBits z first m (v % 2 ^ m)
HasBits-low z first m n v s = search (arith, low_bits, binary_value-parts, mod_low, HasBits-below)

pub HasBits-high : (z : List ℕ) (first m n v : ℕ) → HasBits z first (m + n) v → HasBits z (first + m) n (v / 2 ^ m)
HasBits-high z first m n v s = search (arith, low_bits, binary_value-parts, shr_high, HasBits-below, high_bits)

pub HasBits-join : (z : List ℕ) (first m n low high : ℕ) → HasBits z first m low → HasBits z (first + m) n high → HasBits z first (m + n) (high * 2 ^ m + low)
HasBits-join z first m n low high p q = record {
  bits = λ i h. elim (cases_lt i m) [
    | inl below ↦ p.bits i below
    | inr above ↦ let same : first + m + (i - m) ≡ first + i = omega arith in subst (λ k. IsBit (slice_index z k)) same (q.bits (i - m) (omega arith))
  ];
  number = ap₂ (λ a b. a * 2 ^ m + b) q.number p.number ∙ sym (binary_value-parts z first m n);
}
