-- The terms of marks.
use Rattle.tv_core.proofs.Common.{◌≡◌, ℕ, zero, suc, ◌+◌, ◌-◌, ◌^◌, ◌<◌, ◌≤◌, [], ◌∷◌, ◌++◌, if◌then◌else◌, inl, inr, refl, ◌∙◌, ap, arith, lt-ltb, le-ltb}
use Rattle.std.proofs.Common.{eq-or-lt_of_le}
use Rattle.std.proofs.Math.Nat.{pow-suc}
use Rattle.tv_core.proofs.BelowLaws.{below-power}
use Rattle.tv_core.specs.declared.field.TheConstants.{P}
use Rattle.tv_shift.specs.Thermometer.{products_below, both, mark}

pub products-more : (k : ℕ) → products_below k + (2 ^ k - 1) ≡ products_below (k + 1)
products-more k =
    let next : 2 ^ (k + 1) ≡ 2 ^ k + 2 ^ k = (let same : k + 1 ≡ suc k = omega arith in ap (λ n. 2 ^ n) same ∙ omega (arith, pow-suc 2 k)) in
    omega (arith, below-power k)

-- products
pub both-in : (p c k j : ℕ) → j + 1 < 2 ^ k → both p c k j ≡ (c, p + (products_below k + j)) ∷ []
unfolding both
both-in p c k j h = ap (λ b. if b then (c, p + (products_below k + j)) ∷ [] else []) (lt-ltb (j + 1) (2 ^ k) h)

pub both-last : (p c k j : ℕ) → 2 ^ k ≤ j + 1 → both p c k j ≡ []
unfolding both
both-last p c k j h = ap (λ b. if b then (c, p + (products_below k + j)) ∷ [] else []) (le-ltb (j + 1) (2 ^ k) h)

-- marks
pub mark-none : (bits p j : ℕ) → mark bits p 0 j ≡ []
unfolding mark
mark-none bits p j = refl

pub mark-low : (bits p k j : ℕ) → j < 2 ^ k → mark bits p (suc k) j ≡ (1, bits + k) ∷ (both p (P - 1) k j ++ mark bits p k j)
unfolding mark
mark-low bits p k j h = ap (λ b. if b then (1, bits + k) ∷ (both p (P - 1) k j ++ mark bits p k j) else both p 1 k (j - 2 ^ k)) (lt-ltb j (2 ^ k) h)

pub mark-high : (bits p k j : ℕ) → 2 ^ k ≤ j → mark bits p (suc k) j ≡ both p 1 k (j - 2 ^ k)
unfolding mark
mark-high bits p k j h = ap (λ b. if b then (1, bits + k) ∷ (both p (P - 1) k j ++ mark bits p k j) else both p 1 k (j - 2 ^ k)) (le-ltb j (2 ^ k) h)

-- there are more products for more bits
pub products-up : (i k : ℕ) → i ≤ k → products_below i ≤ products_below k
products-up i zero h = let same : i ≡ 0 = omega arith in omega (arith, ap products_below same)
products-up i (suc k) h = elim (eq-or-lt_of_le h) [
  | inl same ↦ omega (arith, ap products_below same)
  | inr less ↦ omega (arith, products-up i k (omega arith), products-more k, (let one : k + 1 ≡ suc k = omega arith in ap products_below one))
]
