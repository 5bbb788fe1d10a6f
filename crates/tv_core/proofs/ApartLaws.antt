-- Multiples of normal combinations, and sums of combinations that have no wire in common.
use Rattle.std.proofs.Common.{◌≡◌, ◌≢◌, ℕ, ◌+◌, ◌-◌, ◌*◌, ◌%◌, ◌<◌, [], ◌∷◌, ◌++◌, ap, ◌∙◌, arith, eqb, length, mod-lt, ltb, eqb-true}
use Rattle.std.proofs.lemmas.Bool.{cases_eq, cond_both}
use Rattle.std.proofs.lemmas.List.{length-map}
use Rattle.tv_core.specs.Combinations.{less, scaled}
use Rattle.tv_core.specs.Constraints.{Combination}
use Rattle.tv_core.specs.declared.field.TheConstants.{P}
use Rattle.tv_core.specs.Normal.{added, normal, with_term, Apart, IsNormal, IsNormalFrom}
use Rattle.tv_core.proofs.NormalLaws.{Over, Over-append, Over-normal, Over-scaled}
use Rattle.tv_core.proofs.PrimeLaws.{p_zero_product}
use Rattle.tv_core.proofs.Unique.{normal-same}

-- ---- multiples
scaled_term : (k c : ℕ) → 0 < k → k < P → 0 < c → c < P → 0 < k * c % P
scaled_term k c some small has below = search (arith, cases_eq, p_zero_product)

pub normal_scaled : (k least : ℕ) (x : Combination) → 0 < k → k < P → IsNormalFrom least x → IsNormalFrom least (scaled k x)
normal_scaled k least [] some small n = tt
normal_scaled k least (t ∷ x) some small n = (
  n.0,
  scaled_term k t.0 some small n.1 n.2,
  mod-lt (k * t.0) (omega arith),
  normal_scaled k (t.1 + 1) x some small n.3,
)

-- ---- sums
length-with_term_kept : (k w : ℕ) (x : Combination) → 0 < k → k < P → length (with_term k w x) ≡ length x + 1
unfolding with_term
length-with_term_kept k w x some small =
    cond_both (eqb (k % P) 0) x ((k % P, w) ∷ x) (λ y. length y ≡ length x + 1) (λ e. let none = eqb-true _ _ e in absurd (omega arith)) (λ _. omega arith)

length-added_apart : (t : ℕ × ℕ) (x : Combination) → 0 < t.0 → t.0 < P → Over (λ v. t.1 ≢ v) x → length (added t x) ≡ length x + 1
unfolding added
length-added_apart t [] some small apart = length-with_term_kept t.0 t.1 [] some small
length-added_apart t (u ∷ rest) some small apart =
    cond_both (ltb t.1 u.1) (with_term t.0 t.1 (u ∷ rest)) _ (λ y. length y ≡ length (u ∷ rest) + 1)
    (λ _. length-with_term_kept t.0 t.1 (u ∷ rest) some small)
    (λ _. cond_both (eqb t.1 u.1) (with_term (t.0 + u.0) t.1 rest) (u ∷ added t rest) (λ y. length y ≡ length (u ∷ rest) + 1)
    (λ e. absurd (apart.0 (eqb-true t.1 u.1 e)))
    (λ _. omega (arith, length-added_apart t rest some small apart.1)))

-- a wire before all of a normal combination
not_before : (w least : ℕ) (x : Combination) → w < least → IsNormalFrom least x → Over (λ v. w ≢ v) x
not_before w least [] h n = tt
not_before w least (t ∷ x) h n = (omega (arith, n.0), not_before w (t.1 + 1) x (omega (arith, n.0)) n.3)

sum_apart : (least : ℕ) (x y : Combination) → IsNormalFrom least x → IsNormal y → Apart x y → length (normal (x ++ y)) ≡ length x + length y
unfolding normal
sum_apart least [] y n m apart = ap length (normal-same y m) ∙ omega arith
sum_apart least (t ∷ x) y n m apart =
    let others : Over (λ v. t.1 ≢ v) (normal (x ++ y)) =
    Over-normal (λ v. t.1 ≢ v) (x ++ y) (Over-append (λ v. t.1 ≢ v) x y (not_before t.1 (t.1 + 1) x (omega arith) n.3) apart.0) in
    length-added_apart t (normal (x ++ y)) n.1 n.2 others ∙ omega (arith, sum_apart (t.1 + 1) x y n.3 m apart.1)

pub length-normal_apart : (x y : Combination) → IsNormal x → IsNormal y → Apart x y → length (normal (x ++ y)) ≡ length x + length y
length-normal_apart x y n m apart = sum_apart 0 x y n m apart

apart-scaled : (k : ℕ) (x y : Combination) → Apart x y → Apart x (scaled k y)
apart-scaled k [] y h = tt
apart-scaled k (t ∷ x) y h = (Over-scaled (λ v. t.1 ≢ v) k y h.0, apart-scaled k x y h.1)

pub length-normal_less : (x y : Combination) → IsNormal x → IsNormal y → Apart x y → length (normal (less x y)) ≡ length x + length y
length-normal_less x y n m apart =
    length-normal_apart x (scaled (P - 1) y) n (normal_scaled (P - 1) 0 y (omega arith) (omega arith) m) (apart-scaled (P - 1) x y apart)
    ∙ ap (λ k. length x + k) (length-map {B = ℕ × ℕ} y (λ (t : ℕ × ℕ). ((P - 1) * t.0 % P, t.1)))
