-- A number is above another exactly where a prefix of it is, by no more than a chunk.
use Rattle.tv_core.proofs.Common.{◌≡◌, ◌≢◌, ℕ, zero, suc, ◌+◌, ◌-◌, ◌*◌, ◌/◌, ◌%◌, ◌^◌, ◌<◌, ◌≤◌, if◌then◌else◌, inl, inr, refl, sym, ◌∙◌, ap, arith, mod-lt}
use Rattle.tv_core.proofs.Common.{pow-le-pow_right, cases_eq, cases_lt}
use Rattle.std.proofs.Common.{div-one, mul-zero, eq-eqb, ne_eqb}
use Rattle.std.proofs.Math.Nat.{pow-zero, div-eq_of_lt, div-le_self, div-mul-le_self, div-add-mod}
use Rattle.std.proofs.lemmas.Nat.{pow_pos, shr-shr, le-div}
use Rattle.tv_core.specs.declared.field.TheConstants.{P}
use Rattle.tv_bits.specs.Order.{IsPrefixDifference, first_difference}

-- ---- prefixes
prefix_le : (x y p : ℕ) → y ≤ x → y / 2 ^ p ≤ x / 2 ^ p
prefix_le x y p h = le-div (y / 2 ^ p) x (2 ^ p) (pow_pos p) (let least = div-mul-le_self y (2 ^ p) in omega arith)

-- whose prefix is above is above
pub above_of_prefix : (x y p : ℕ) → y / 2 ^ p < x / 2 ^ p → y < x
above_of_prefix x y p h = elim (cases_lt y x) [ inl above ↦ above | inr not ↦ absurd (omega (arith, prefix_le y x p not)) ]

prefix_small : (n x p : ℕ) → n ≤ 63 → x < 2 ^ n → x / 2 ^ p < 2 ^ 63
prefix_small n x p short h = let power : 2 ^ n ≤ 2 ^ 63 = pow-le-pow_right (omega arith) short in omega (arith, div-le_self x (2 ^ p))

difference_above : (a b d : ℕ) → a < 2 ^ 63 → b < 2 ^ 63 → 0 < d → d ≤ 2 ^ 62 → (a + (P - b)) % P ≡ d → b < a
difference_above a b d h k some few e = omega arith

-- where a difference of prefixes is from 1 to 2 ^ c, the first number is above
pub IsPrefixDifference-above : (n c t x y d : ℕ) → n ≤ 63 → c ≤ 62 → x < 2 ^ n → y < 2 ^ n → 0 < d → d ≤ 2 ^ c → IsPrefixDifference c t x y d → y < x
IsPrefixDifference-above n c t x y d short few h k some most i = search (arith, pow-le-pow_right, above_of_prefix, difference_above, prefix_small)

-- ---- the shortest prefix that differs
pub first_difference-zero : (c x y : ℕ) → first_difference c 0 x y ≡ 0
unfolding first_difference
first_difference-zero c x y = refl

pub first_difference-same : (c t x y : ℕ) → x / 2 ^ (c * t) ≡ y / 2 ^ (c * t) → first_difference c (suc t) x y ≡ first_difference c t x y
unfolding first_difference
first_difference-same c t x y same = ap (λ b. if b then first_difference c t x y else x / 2 ^ (c * t) - y / 2 ^ (c * t)) (eq-eqb _ _ same)

pub first_difference-apart : (c t x y : ℕ) → x / 2 ^ (c * t) ≢ y / 2 ^ (c * t) → first_difference c (suc t) x y ≡ x / 2 ^ (c * t) - y / 2 ^ (c * t)
unfolding first_difference
first_difference-apart c t x y apart = ap (λ b. if b then first_difference c t x y else x / 2 ^ (c * t) - y / 2 ^ (c * t)) (ne_eqb _ _ apart)

pub first_difference-le : (c t x y : ℕ) → first_difference c t x y ≤ x
first_difference-le c zero x y = omega (arith, first_difference-zero c x y)
first_difference-le c (suc t) x y =
    elim (cases_eq (x / 2 ^ (c * t)) (y / 2 ^ (c * t))) [
      | inl same ↦ omega (arith, first_difference-same c t x y same, first_difference-le c t x y)
      | inr apart ↦ omega (arith, first_difference-apart c t x y apart, div-le_self x (2 ^ (c * t)))
    ]

-- two numbers that are the same without their lowest chunk are less than 2 ^ c apart
within_chunk : (a b k : ℕ) → 0 < k → a / k ≡ b / k → a - b < k
within_chunk a b k positive same = search (arith, div-add-mod, mod-lt)

-- where the first number is above, and the prefixes of t chunks less are the same
record IsFirst (c t x y : ℕ) : Type 0 where
  chunk : ℕ
  within : chunk < t
  above : y / 2 ^ (c * chunk) < x / 2 ^ (c * chunk)
  is : first_difference c t x y ≡ x / 2 ^ (c * chunk) - y / 2 ^ (c * chunk)
  below : first_difference c t x y < 2 ^ c

first_is : (c t x y : ℕ) → y < x → x / 2 ^ (c * t) ≡ y / 2 ^ (c * t) → IsFirst c t x y
first_is c zero x y h same = absurd (let whole : (n : ℕ) → n / 2 ^ (c * 0) ≡ n = λ n. ap (λ k. n / 2 ^ k) (mul-zero c) ∙ ap (λ k. n / k) (pow-zero 2)
    ∙ div-one n in omega (arith, whole x, whole y))
first_is c (suc t) x y h same =
    let p = c * t in
    let place : p + c ≡ c * suc t = omega arith in
    let shorter : x / 2 ^ p / 2 ^ c ≡ y / 2 ^ p / 2 ^ c = shr-shr x p c ∙ ap (λ k. x / 2 ^ k) place ∙ same ∙ sym (shr-shr y p c ∙ ap (λ k. y / 2 ^ k) place) in
    elim (cases_eq (x / 2 ^ p) (y / 2 ^ p)) [
      | inl none ↦
          let rest = first_is c t x y h none in
          let more = first_difference-same c t x y none in
          record { chunk = rest.chunk; within = omega (arith, rest.within); above = rest.above; is = more ∙ rest.is; below = omega (arith, rest.below) }
      | inr some ↦
          let here = first_difference-apart c t x y some in
          record {
            chunk = t;
            within = omega arith;
            above = omega (arith, prefix_le x y p (omega arith));
            is = here;
            below = omega (arith, within_chunk (x / 2 ^ p) (y / 2 ^ p) (2 ^ c) (pow_pos c) shorter);
          }
    ]

difference_of_above : (a b : ℕ) → b < a → a < 2 ^ 63 → (a + (P - b)) % P ≡ a - b
difference_of_above a b h k = omega arith

-- where a number is above another, by what the shortest prefix that differs is: from 1 to less than 2 ^ c
module _ (n c t x y : ℕ) (whole : n ≤ c * t) (short : n ≤ 63) (below : x < 2 ^ n) (above : y < x) where
  first : IsFirst c t x y
  first = search (arith, pow-le-pow_right, first_is, above, div-eq_of_lt)

  pub first_difference-some : 0 < first_difference c t x y
  first_difference-some = omega (arith, first.is, first.above)

  pub first_difference-below : first_difference c t x y < 2 ^ c
  first_difference-below = first.below

  pub IsPrefixDifference-first : IsPrefixDifference c t x y (first_difference c t x y)
  IsPrefixDifference-first =
      let p = c * first.chunk in
      record {
        chunk = first.chunk;
        within = first.within;
        is = difference_of_above (x / 2 ^ p) (y / 2 ^ p) first.above (prefix_small n x p short below) ∙ sym first.is;
      }

-- of two numbers of which neither is above, it is 0
pub first_difference-none : (c t x y : ℕ) → x ≤ y → first_difference c t x y ≡ 0
unfolding first_difference
first_difference-none c zero x y h = refl
first_difference-none c (suc t) x y h =
    elim (cases_eq (x / 2 ^ (c * t)) (y / 2 ^ (c * t))) [
      | inl same ↦ first_difference-same c t x y same ∙ first_difference-none c t x y h
      | inr apart ↦ omega (arith, first_difference-apart c t x y apart, prefix_le y x (c * t) h)
    ]

-- the other way round: a difference and its negative, and no difference
difference_turned : (a b d : ℕ) → a < P → b < P → 0 < d → d < P → (a + (P - b)) % P ≡ P - d → (b + (P - a)) % P ≡ d
difference_turned a b d h k some small e = omega arith

difference_back : (a b d : ℕ) → a < P → b < P → 0 < d → d < P → (b + (P - a)) % P ≡ d → (a + (P - b)) % P ≡ P - d
difference_back a b d h k some small e = omega arith

difference_none : (a : ℕ) → a < P → (a + (P - a)) % P ≡ 0
difference_none a h = omega arith

prefix_residue : (x p : ℕ) → x < P → x / 2 ^ p < P
prefix_residue x p h = omega (arith, div-le_self x (2 ^ p))

module _ (c t x y d : ℕ) (h : x < P) (k : y < P) (some : 0 < d) (small : d < P) where
  pub IsPrefixDifference-turned : IsPrefixDifference c t x y (P - d) → IsPrefixDifference c t y x d
  IsPrefixDifference-turned i = record {
    chunk = i.chunk;
    within = i.within;
    is = let p = c * i.chunk in difference_turned (x / 2 ^ p) (y / 2 ^ p) d (prefix_residue x p h) (prefix_residue y p k) some small i.is;
  }

  pub IsPrefixDifference-back : IsPrefixDifference c t y x d → IsPrefixDifference c t x y (P - d)
  IsPrefixDifference-back i = record {
    chunk = i.chunk;
    within = i.within;
    is = let p = c * i.chunk in difference_back (x / 2 ^ p) (y / 2 ^ p) d (prefix_residue x p h) (prefix_residue y p k) some small i.is;
  }

pub IsPrefixDifference-same : (c t x d : ℕ) → x < P → IsPrefixDifference c t x x d → d ≡ 0
IsPrefixDifference-same c t x d h i = sym i.is ∙ difference_none (x / 2 ^ (c * i.chunk)) (prefix_residue x (c * i.chunk) h)

pub IsPrefixDifference-none : (c t x : ℕ) → x < P → 0 < t → IsPrefixDifference c t x x 0
IsPrefixDifference-none c t x h some = record { chunk = 0; within = some; is = difference_none (x / 2 ^ (c * 0)) (prefix_residue x (c * 0) h) }
