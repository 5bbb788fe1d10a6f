-- Sums over the first places.
use Rattle.tv_core.proofs.Common.{◌≡◌, ℕ, zero, suc, ◌+◌, ◌<◌, ◌≤◌, sym, ap, ◌∙◌, arith, subst, inl, inr, cases_eq}
use Rattle.tv_core.proofs.BelowLaws.{sum_below-suc}
use Rattle.tv_core.specs.Below.{sum_below}

pub sum_next : (i : ℕ) (f : ℕ → ℕ) → sum_below (i + 1) f ≡ sum_below i f + f i
sum_next i f = let e : i + 1 ≡ suc i = omega arith in ap (λ n. sum_below n f) e ∙ sum_below-suc i f

-- a sum up to a place, and the summand there, are at most the whole sum
pub sum_most : (n i : ℕ) (f : ℕ → ℕ) → i < n → sum_below i f + f i ≤ sum_below n f
sum_most zero i f h = absurd (omega arith)
sum_most (suc n) i f h = elim (cases_eq i n) [
  | inl same ↦ subst (λ i. sum_below i f + f i ≤ sum_below (suc n) f) (sym same) (omega (arith, sum_below-suc n f))
  | inr apart ↦ omega (arith, sum_most n i f (omega arith), sum_below-suc n f)
]
