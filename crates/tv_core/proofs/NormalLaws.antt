-- Normal combinations: their values, and their wires.
use Rattle.std.proofs.Common.{◌≡◌, ℕ, ◌+◌, ◌*◌, ◌%◌, ◌<◌, ◌≤◌, length, List, [], ◌∷◌, ◌++◌, refl, sym, ◌∙◌, ap, arith, ltb, eqb, ltb-true, ltb-false}
use Rattle.std.proofs.Common.{eqb-true, add-mul}
use Rattle.std.specs.List.{AllByRecursion}
use Rattle.std.specs.Prelude.{slice_index}
use Rattle.std.proofs.lemmas.Bool.{cond_both, eqb-false}
use Rattle.std.proofs.lemmas.Nat.{mul-mod_first}
use Rattle.tv_core.proofs.CombinationLaws.{value-cons, value-below}
use Rattle.tv_core.proofs.Residues.{add-mod_same, mul-mod_zero}
use Rattle.tv_core.specs.Constraints.{Combination, value}
use Rattle.tv_core.specs.Combinations.{scaled, top}
use Rattle.tv_core.specs.declared.field.TheConstants.{P}
use Rattle.tv_core.specs.Normal.{with_term, added, normal, IsNormalFrom}

-- sums modulo P
no_term : (n v : ℕ) → v < P → n % P ≡ 0 → v ≡ (n + v) % P
no_term n v small e = omega arith

pub regrouped : (a b v : ℕ) → (a + b + v) % P ≡ (a + (b + v) % P) % P
regrouped a b v = omega arith

pub exchanged : (a b v : ℕ) → (b + (a + v) % P) % P ≡ (a + (b + v) % P) % P
exchanged a b v = omega arith

pub residue_first : (k n v : ℕ) → (k % P * n + v) % P ≡ (k * n + v) % P
residue_first k n v = add-mod_same (k % P * n) (k * n) v v P (mul-mod_first k n P) refl

module _ (z : List ℕ) where
  -- a term more
  pub value-with_term : (k w : ℕ) (x : Combination) → value (with_term k w x) z ≡ (k * slice_index z w + value x z) % P
  unfolding with_term
  value-with_term k w x = search (arith, cond_both, eqb, no_term, value-below, mul-mod_zero, eqb-true, value-cons, residue_first)

  module _ (t u : ℕ × ℕ) (rest : Combination) where
    same_wire : t.1 ≡ u.1 → value (with_term (t.0 + u.0) t.1 rest) z ≡ (t.0 * slice_index z t.1 + value (u ∷ rest) z) % P
    same_wire e = search (arith, add-mul, value-with_term, regrouped, value-cons)

    later_wire : value (added t rest) z ≡ (t.0 * slice_index z t.1 + value rest z) % P
        → value (u ∷ added t rest) z ≡ (t.0 * slice_index z t.1 + value (u ∷ rest) z) % P
    later_wire before = search (arith, value-cons, exchanged)

  pub value-added : (t : ℕ × ℕ) (x : Combination) → value (added t x) z ≡ (t.0 * slice_index z t.1 + value x z) % P
  unfolding added
  value-added t [] = value-with_term t.0 t.1 []
  value-added t (u ∷ rest) =
      cond_both (ltb t.1 u.1) (with_term t.0 t.1 (u ∷ rest)) _ (λ y. value y z ≡ (t.0 * slice_index z t.1 + value (u ∷ rest) z) % P)
      (λ e. value-with_term t.0 t.1 (u ∷ rest))
      (λ e. cond_both (eqb t.1 u.1) (with_term (t.0 + u.0) t.1 rest) (u ∷ added t rest) (λ y. value y z ≡ (t.0 * slice_index z t.1 + value (u ∷ rest) z) % P)
      (λ same. same_wire t u rest (eqb-true _ _ same))
      (λ apart. later_wire t u rest (value-added t rest)))

  pub value-normal : (x : Combination) → value (normal x) z ≡ value x z
  unfolding normal
  value-normal [] = refl
  value-normal (t ∷ x) = value-added t (normal x) ∙ ap (λ n. (t.0 * slice_index z t.1 + n) % P) (value-normal x) ∙ sym (value-cons t.0 t.1 x z)

-- what holds of the wires of a combination
abbrev pub Over : (ℕ → Type 0) → Combination → Type 0
Over Q x = AllByRecursion (λ t. Q t.1) x

module _ (Q : ℕ → Type 0) where
  Over-with_term : (k w : ℕ) (x : Combination) → Q w → Over Q x → Over Q (with_term k w x)
  unfolding with_term
  Over-with_term k w x q h = cond_both (eqb (k % P) 0) x ((k % P, w) ∷ x) (Over Q) (λ e. h) (λ e. (q, h))

  Over-added : (t : ℕ × ℕ) (x : Combination) → Q t.1 → Over Q x → Over Q (added t x)
  unfolding added
  Over-added t [] q h = Over-with_term t.0 t.1 [] q h
  Over-added t (u ∷ rest) q h =
      cond_both (ltb t.1 u.1) (with_term t.0 t.1 (u ∷ rest)) _ (Over Q)
      (λ e. Over-with_term t.0 t.1 (u ∷ rest) q h)
      (λ e. cond_both (eqb t.1 u.1) (with_term (t.0 + u.0) t.1 rest) (u ∷ added t rest) (Over Q)
      (λ same. Over-with_term (t.0 + u.0) t.1 rest q h.1)
      (λ apart. (h.0, Over-added t rest q h.1)))

  pub Over-normal : (x : Combination) → Over Q x → Over Q (normal x)
  unfolding normal
  Over-normal [] h = h
  Over-normal (t ∷ x) h = Over-added t (normal x) h.0 (Over-normal x h.1)

  pub Over-append : (x y : Combination) → Over Q x → Over Q y → Over Q (x ++ y)
  Over-append [] y h k = k
  Over-append (t ∷ x) y h k = (h.0, Over-append x y h.1 k)

  pub Over-scaled : (k : ℕ) (x : Combination) → Over Q x → Over Q (scaled k x)
  Over-scaled k [] h = h
  Over-scaled k (t ∷ x) h = (h.0, Over-scaled k x h.1)

  -- values of a combination under two assignments that agree there
  pub value-local : (y z : List ℕ) (x : Combination) → Over Q x → ((v : ℕ) → Q v → slice_index y v ≡ slice_index z v) → value x y ≡ value x z
  value-local y z [] h same = refl
  value-local y z (t ∷ x) h same =
      value-cons t.0 t.1 x y ∙ ap (λ n. (t.0 * n + value x y) % P) (same t.1 h.0) ∙ ap (λ n. (t.0 * slice_index z t.1 + n) % P) (value-local y z x h.1 same)
      ∙ sym (value-cons t.0 t.1 x z)

pub Over-weaker : (Q R : ℕ → Type 0) (x : Combination) → ((v : ℕ) → Q v → R v) → Over Q x → Over R x
Over-weaker Q R [] weaker h = tt
Over-weaker Q R (t ∷ x) weaker h = (weaker t.1 h.0, Over-weaker Q R x weaker h.1)

-- a normal combination
pub IsNormalFrom-with_term : (least k w : ℕ) (x : Combination) → least ≤ w → IsNormalFrom (w + 1) x → IsNormalFrom least x
    → IsNormalFrom least (with_term k w x)
unfolding with_term
IsNormalFrom-with_term least k w x h behind n = search (arith, cond_both, eqb, eqb-false)

pub IsNormalFrom-lower : (least more : ℕ) (x : Combination) → least ≤ more → IsNormalFrom more x → IsNormalFrom least x
IsNormalFrom-lower least more [] h n = tt
IsNormalFrom-lower least more (t ∷ x) h n = (omega (arith, n.0), n.1, n.2, n.3)

pub IsNormalFrom-added : (least : ℕ) (t : ℕ × ℕ) (x : Combination) → least ≤ t.1 → IsNormalFrom least x → IsNormalFrom least (added t x)
unfolding added
IsNormalFrom-added least t [] h n = IsNormalFrom-with_term least t.0 t.1 [] h tt tt
IsNormalFrom-added least t (u ∷ rest) h n =
    cond_both (ltb t.1 u.1) (with_term t.0 t.1 (u ∷ rest)) _ (IsNormalFrom least)
    (λ e. let below = ltb-true t.1 u.1 e in IsNormalFrom-with_term least t.0 t.1 (u ∷ rest) h (omega arith, n.1, n.2, n.3) n)
    (λ e. let above = ltb-false t.1 u.1 e in cond_both (eqb t.1 u.1) (with_term (t.0 + u.0) t.1 rest) (u ∷ added t rest) (IsNormalFrom least)
    (λ same. let is = eqb-true t.1 u.1 same in
    IsNormalFrom-with_term least (t.0 + u.0) t.1 rest h (IsNormalFrom-lower (t.1 + 1) (u.1 + 1) rest (omega arith) n.3)
    (IsNormalFrom-lower least (u.1 + 1) rest (omega (arith, n.0)) n.3))
    (λ apart. let isnt = eqb-false t.1 u.1 apart in (n.0, n.1, n.2, IsNormalFrom-added (u.1 + 1) t rest (omega arith) n.3)))

pub normal_from : (least : ℕ) (x : Combination) → Over (λ v. least ≤ v) x → IsNormalFrom least (normal x)
unfolding normal
normal_from least [] h = tt
normal_from least (t ∷ x) h = IsNormalFrom-added least t (normal x) h.0 (normal_from least x h.1)

each_over : (x : Combination) → Over (λ v. 0 ≤ v) x
each_over [] = tt
each_over (t ∷ x) = (omega arith, each_over x)

pub IsNormalFrom-normal : (x : Combination) → IsNormalFrom 0 (normal x)
IsNormalFrom-normal x = normal_from 0 x (each_over x)

-- ---- its length, and its greatest wire
length-with_term : (k w : ℕ) (x : Combination) → length (with_term k w x) ≤ length x + 1
unfolding with_term
length-with_term k w x = cond_both (eqb (k % P) 0) x ((k % P, w) ∷ x) (λ y. length y ≤ length x + 1) (λ _. omega arith) (λ _. omega arith)

length-added : (t : ℕ × ℕ) (x : Combination) → length (added t x) ≤ length x + 1
unfolding added
length-added t [] = length-with_term t.0 t.1 []
length-added t (u ∷ rest) =
    cond_both (ltb t.1 u.1) (with_term t.0 t.1 (u ∷ rest)) _ (λ y. length y ≤ length (u ∷ rest) + 1)
    (λ _. length-with_term t.0 t.1 (u ∷ rest))
    (λ _. cond_both (eqb t.1 u.1) (with_term (t.0 + u.0) t.1 rest) (u ∷ added t rest) (λ y. length y ≤ length (u ∷ rest) + 1)
    (λ _. omega (arith, length-with_term (t.0 + u.0) t.1 rest))
    (λ _. omega (arith, length-added t rest)))

pub length-normal : (x : Combination) → length (normal x) ≤ length x
unfolding normal
length-normal [] = omega arith
length-normal (t ∷ rest) = omega (arith, length-added t (normal rest), length-normal rest)

below_top : (n : ℕ) (x : Combination) → top x ≤ n → Over (λ v. v < n) x
below_top n [] h = tt
below_top n (t ∷ x) h = (omega arith, below_top n x (omega arith))

top_below : (n : ℕ) (x : Combination) → Over (λ v. v < n) x → top x ≤ n
top_below n [] h = omega arith
top_below n (t ∷ x) h = omega (arith, h.0, top_below n x h.1)

pub top-normal : (x : Combination) → top (normal x) ≤ top x
top-normal x = top_below (top x) (normal x) (Over-normal (λ v. v < top x) x (below_top (top x) x (omega arith)))
