-- Two normal combinations of the same values are one.
use Rattle.std.proofs.Common.{◌≡◌, ℕ, ◌+◌, ◌*◌, ◌%◌, ◌<◌, Bool, List, [], ◌∷◌, ◌++◌, refl, add_comm, sym, ◌∙◌, ap, ap₂, arith, eqb, true, false, inl, inr}
use Rattle.std.proofs.Common.{cond, map, eq-eqb, ne_eqb}
use Rattle.std.specs.List.{range_with_len, sum_by}
use Rattle.std.specs.Prelude.{slice_index}
use Rattle.std.proofs.lemmas.Bool.{cases_lt, cases_eq, cases_order}
use Rattle.std.proofs.lemmas.List.{get_or_past}
use Rattle.std.proofs.lemmas.List.FromFn.{length-map-range_with_len, get_or-map-range_with_len}
use Rattle.std.proofs.lemmas.List.Sums.{sum_by-cons}
use Rattle.tv_core.proofs.CombinationLaws.{value-append}
use Rattle.tv_core.proofs.Residues.{sum_by-mod_same}
use Rattle.tv_core.specs.Constraints.{Combination, value}
use Rattle.tv_core.specs.declared.field.TheConstants.{P}
use Rattle.tv_core.specs.Normal.{added, coefficient, normal, IsNormal, IsNormalFrom, with_term}
use Rattle.tv_core.proofs.NormalLaws.{value-normal, value-with_term, IsNormalFrom-normal, IsNormalFrom-with_term, IsNormalFrom-lower}

-- the sum of a wire's coefficients
abbrev pub summed : ℕ → Combination → ℕ
summed w x = sum_by (λ t. cond (eqb t.1 w) t.0 0) x

pub summed-none : (least w : ℕ) (x : Combination) → IsNormalFrom least x → w < least → summed w x ≡ 0
summed-none least w [] n h = refl
summed-none least w (t ∷ x) n h =
    sum_by-cons (λ u. cond (eqb u.1 w) u.0 0) t x
    ∙ ap (λ b. cond b t.0 0 + summed w x) (ne_eqb t.1 w (λ e. absurd (omega (arith, n.0))))
    ∙ ap (λ k. 0 + k) (summed-none (t.1 + 1) w x n.3 (omega (arith, n.0)))

-- an assignment that has 1 at one wire, and 0 at all others
abbrev unit : ℕ → List ℕ
unit w = map (λ v. cond (eqb v w) 1 0) (range_with_len 0 (w + 1))

unit_at : (w v : ℕ) → slice_index (unit w) v ≡ cond (eqb v w) 1 0
unit_at w v = search (arith, cases_lt, get_or-map-range_with_len, cond, eqb, get_or_past, length-map-range_with_len, ℕ, ne_eqb)

times_unit : (k : ℕ) (b : Bool) → k * cond b 1 0 ≡ cond b k 0
times_unit k true = omega arith
times_unit k false = omega arith

-- the value there is the wire's coefficient
value-unit : (w : ℕ) (x : Combination) → value x (unit w) ≡ coefficient w x
unfolding coefficient
value-unit w x = search (arith, sum_by-mod_same, cond, eqb, unit_at, times_unit)

-- coefficients of a normal combination
pub coefficient-first : (t : ℕ × ℕ) (x : Combination) → t.0 < P → IsNormalFrom (t.1 + 1) x → coefficient t.1 (t ∷ x) ≡ t.0
unfolding coefficient
coefficient-first t x small n =
    ap (λ k. k % P) (sum_by-cons (λ u. cond (eqb u.1 t.1) u.0 0) t x
    ∙ ap₂ (λ b k. cond b t.0 0 + k) (eq-eqb t.1 t.1 refl) (summed-none (t.1 + 1) t.1 x n (omega arith)))
    ∙ omega arith

pub coefficient-before : (least w : ℕ) (x : Combination) → IsNormalFrom least x → w < least → coefficient w x ≡ 0
unfolding coefficient
coefficient-before least w x n h = ap (λ k. k % P) (summed-none least w x n h)

pub coefficient-other : (t : ℕ × ℕ) (w : ℕ) (x : Combination) → (t.1 ≡ w → ⊥) → coefficient w (t ∷ x) ≡ coefficient w x
unfolding coefficient
coefficient-other t w x apart =
    ap (λ k. k % P) (sum_by-cons (λ u. cond (eqb u.1 w) u.0 0) t x ∙ ap (λ b. cond b t.0 0 + summed w x) (ne_eqb t.1 w apart) ∙ omega arith)

-- a first wire that the other combination hasn't
lone_first : (t : ℕ × ℕ) (x y : Combination) (least : ℕ) → 0 < t.0 → t.0 < P → IsNormalFrom (t.1 + 1) x → IsNormalFrom least y → t.1 < least
    → coefficient t.1 (t ∷ x) ≡ coefficient t.1 y → ⊥
lone_first t x y least some small n m h e =
    let is : t.0 ≡ 0 = sym (coefficient-first t x small n) ∙ e ∙ coefficient-before least t.1 y m h in omega arith

same_rest : (t u : ℕ × ℕ) (x y : Combination) → t.1 ≡ u.1 → IsNormalFrom (t.1 + 1) x → IsNormalFrom (u.1 + 1) y
    → ((w : ℕ) → coefficient w (t ∷ x) ≡ coefficient w (u ∷ y)) → (w : ℕ) → coefficient w x ≡ coefficient w y
same_rest t u x y is n m same w = search (arith, cases_eq, coefficient-before, coefficient-other)

pub one_normal : (least more : ℕ) (x y : Combination) → IsNormalFrom least x → IsNormalFrom more y → ((w : ℕ) → coefficient w x ≡ coefficient w y) → x ≡ y
one_normal least more [] [] n m same = refl
one_normal least more [] (u ∷ y) n m same = absurd (lone_first u y [] (u.1 + 1) m.1 m.2 m.3 tt (omega arith) (sym (same u.1)))
one_normal least more (t ∷ x) [] n m same = absurd (lone_first t x [] (t.1 + 1) n.1 n.2 n.3 tt (omega arith) (same t.1))
one_normal least more (t ∷ x) (u ∷ y) n m same =
    elim (cases_order t.1 u.1) [
      | inl is ↦
          let first : t.0 ≡ u.0 = sym (coefficient-first t x n.2 n.3) ∙ same t.1 ∙ ap (λ w. coefficient w (u ∷ y)) is ∙ coefficient-first u y m.2 m.3 in
          ap₂ (λ a b. (a, b) ∷ x) first is ∙ ap (λ rest. u ∷ rest) (one_normal (t.1 + 1) (u.1 + 1) x y n.3 m.3 (same_rest t u x y is n.3 m.3 same))
      | inr apart ↦ elim apart [
        | inl before ↦ absurd (lone_first t x (u ∷ y) u.1 n.1 n.2 n.3 (omega arith, m.1, m.2, m.3) before (same t.1))
        | inr behind ↦ absurd (lone_first u y (t ∷ x) t.1 m.1 m.2 m.3 (omega arith, n.1, n.2, n.3) behind (sym (same u.1)))
      ]
    ]

-- by their values
pub same_values : (least more : ℕ) (x y : Combination) → IsNormalFrom least x → IsNormalFrom more y → ((z : List ℕ) → value x z ≡ value y z) → x ≡ y
same_values least more x y n m same = one_normal least more x y n m (λ w. sym (value-unit w x) ∙ same (unit w) ∙ value-unit w y)

-- a normal combination is made normal already
pub normal-same : (x : Combination) → IsNormalFrom 0 x → normal x ≡ x
normal-same x n = same_values 0 0 (normal x) x (IsNormalFrom-normal x) n (λ z. value-normal z x)

-- a combination whose first wire is known, made normal
pub normal-step : (x rest : Combination) (k w : ℕ) → IsNormalFrom (w + 1) (normal rest) → ((z : List ℕ) → value x z ≡ (k * slice_index z w + value rest z) % P)
    → normal x ≡ with_term k w (normal rest)
normal-step x rest k w n same =
    same_values 0 0 (normal x) (with_term k w (normal rest)) (IsNormalFrom-normal x)
    (IsNormalFrom-with_term 0 k w (normal rest) (omega arith) n (IsNormalFrom-lower 0 (w + 1) (normal rest) (omega arith) n))
    (λ z. value-normal z x ∙ same z ∙ ap (λ n. (k * slice_index z w + n) % P) (sym (value-normal z rest)) ∙ sym (value-with_term z k w (normal rest)))

-- combinations of the same values, made normal
pub by_values : (x y : Combination) → ((z : List ℕ) → value x z ≡ value y z) → normal x ≡ normal y
by_values x y same = same_values 0 0 (normal x) (normal y) (IsNormalFrom-normal x) (IsNormalFrom-normal y)
    (λ z. value-normal z x ∙ same z ∙ sym (value-normal z y))

-- a part that is made normal before
pub normal-front : (x y : Combination) → normal (normal x ++ y) ≡ normal (x ++ y)
normal-front x y = by_values (normal x ++ y) (x ++ y)
    (λ z. value-append (normal x) y z ∙ ap (λ n. (n + value y z) % P) (value-normal z x) ∙ sym (value-append x y z))

pub normal_swap : (x y : Combination) → normal (x ++ y) ≡ normal (y ++ x)
normal_swap x y = by_values (x ++ y) (y ++ x) (λ z. value-append x y z ∙ ap (λ n. n % P) (add_comm (value x z) (value y z)) ∙ sym (value-append y x z))

-- one term more at the end
pub normal-push : (t : ℕ × ℕ) (x : Combination) → normal (x ++ t ∷ []) ≡ added t (normal x)
unfolding normal
normal-push t x = normal_swap x (t ∷ [])

pub normal-end : (t : ℕ × ℕ) (x : Combination) → IsNormal x → normal (x ++ t ∷ []) ≡ added t x
normal-end t x n = normal-push t x ∙ ap (added t) (normal-same x n)
