-- The inverses of small numbers and of their products, modulo P.
use Rattle.tv_core.proofs.Common.{◌≡◌, ℕ, zero, suc, ◌+◌, ◌-◌, ◌*◌, ◌%◌, ◌<◌, ◌==◌, Bool, true, List, [], ◌∷◌, length, inl, inr, refl, sym, ◌∙◌, ap, ap₂, arith}
use Rattle.tv_core.proofs.Common.{mod-lt, zero-mul, slice_index, cases_eq, eqb-true}
use Rattle.std.proofs.Common.{◌&&◌, mul-zero, add-zero}
use Rattle.std.proofs.lemmas.Bool.{and_parts}
use Rattle.std.proofs.lemmas.Nat.{mul-mod, mul-mod_first, mul-mod_second}
use Rattle.tv_core.proofs.InverseLaws.{mul-inverse_of, inverse_of-zero, inverse_of-below, inverse_of_is}
use Rattle.tv_core.specs.Inverse.{inverse_of}
use Rattle.tv_core.specs.declared.field.TheConstants.{P}
use Rattle.tv_regs.specs.Triple.{minus}
use Rattle.tv_regs.specs.declared.triple.TheConstants.{INVERSES}

-- each of a list is the inverse of a number, from k on
abbrev are_inverses : ℕ → List ℕ → Bool
are_inverses k [] = true
are_inverses k (t ∷ ts) = (k * t % P == 1) && are_inverses (k + 1) ts

inverse_at : (k i : ℕ) (ts : List ℕ) → are_inverses k ts ≡ true → i < length ts → (k + i) * slice_index ts i % P ≡ 1
inverse_at k i [] all h = absurd (omega arith)
inverse_at k zero (t ∷ ts) all h = ap (λ n. n * t % P) (add-zero k) ∙ eqb-true (k * t % P) 1 (and_parts (k * t % P == 1) (are_inverses (k + 1) ts) all).0
inverse_at k (suc i) (t ∷ ts) all h =
    let place : k + suc i ≡ k + 1 + i = omega arith in
    ap (λ n. n * slice_index ts i % P) place ∙ inverse_at (k + 1) i ts (and_parts (k * t % P == 1) (are_inverses (k + 1) ts) all).1 (omega arith)

pub small_inverse : (k : ℕ) → 0 < k → k < 16 → slice_index INVERSES (k - 1) % P ≡ inverse_of k
small_inverse k positive within =
    let t = slice_index INVERSES (k - 1) in
    let again : 1 + (k - 1) ≡ k = omega arith in
    let one = inverse_at 1 (k - 1) INVERSES refl (omega arith) in
    inverse_of_is k (t % P) (mod-lt t (omega arith)) (mul-mod_second k t P ∙ ap (λ n. n * t % P) (sym again) ∙ one)

-- the inverse of a negated number
crossed : (k r n q : ℕ) → n + k ≡ P → q + r ≡ P → k * r % P ≡ 1 → n * q % P ≡ 1
crossed k r n q en eq one = omega (arith, ap (λ x. x * q) en, ap (λ x. k * x) eq)

pub negated_inverse : (a b : ℕ) → a < b → b < 16 → (P - inverse_of (b - a)) % P ≡ inverse_of (minus a b)
negated_inverse a b less within =
    let k = b - a in
    let r = inverse_of k in
    let one = mul-inverse_of k (λ none. omega arith) in
    let below = inverse_of-below k in
    let turned : minus a b ≡ P - k = omega arith in
    let r_positive : 0 < r = positive_of k r one in
    let q : (P - r) % P ≡ P - r = omega arith in
    inverse_of_is (minus a b) ((P - r) % P) (mod-lt (P - r) (omega arith)) (ap₂ (λ x y. x * y % P) turned q
    ∙ crossed k r (P - k) (P - r) (omega arith) (omega arith) one)
  where
    positive_of : (k r : ℕ) → k * r % P ≡ 1 → 0 < r
    positive_of k zero one = absurd (omega (arith, one, mul-zero k))
    positive_of k (suc r) one = omega arith

pub inverse_itself : (a b : ℕ) → a < P → a ≡ b → 0 ≡ inverse_of (minus a b)
inverse_itself a b small same = sym (inverse_of-zero (minus a b) (omega arith))

-- the inverse of a product
none_first : (a b : ℕ) → a % P ≡ 0 → a * b % P % P ≡ 0
none_first a b none = ap (λ n. n % P) (sym (mul-mod_first a b P) ∙ ap (λ n. n * b % P) none ∙ ap (λ n. n % P) (zero-mul b))

none_second : (a b : ℕ) → b % P ≡ 0 → a * b % P % P ≡ 0
none_second a b none = ap (λ n. n % P) (sym (mul-mod_second a b P) ∙ ap (λ n. a * n % P) none ∙ ap (λ n. n % P) (mul-zero a))

pub inverse_product : (a b : ℕ) → inverse_of a * inverse_of b % P ≡ inverse_of (a * b % P)
inverse_product a b = elim (cases_eq (a % P) 0) [
  | inl none ↦ ap (λ n. n * inverse_of b % P) (inverse_of-zero a none) ∙ ap (λ n. n % P) (zero-mul (inverse_of b))
      ∙ sym (inverse_of-zero (a * b % P) (none_first a b none))
  | inr some ↦ elim (cases_eq (b % P) 0) [
    | inl none ↦ ap (λ n. inverse_of a * n % P) (inverse_of-zero b none) ∙ ap (λ n. n % P) (mul-zero (inverse_of a))
        ∙ sym (inverse_of-zero (a * b % P) (none_second a b none))
    | inr other ↦
        let x = inverse_of a in
        let y = inverse_of b in
        let swapped : a * b * (x * y) ≡ a * x * (b * y) = omega arith in
        inverse_of_is (a * b % P) (x * y % P) (mod-lt (x * y) (omega arith))
        (sym (mul-mod (a * b) (x * y) P) ∙ ap (λ n. n % P) swapped ∙ mul-mod (a * x) (b * y) P
        ∙ ap₂ (λ m n. m * n % P) (mul-inverse_of a some) (mul-inverse_of b other))
  ]
]
