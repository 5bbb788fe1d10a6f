-- A combination in place of a wire: the value stays where the wire has the combination's value.
use Rattle.tv_core.proofs.Common.{◌≡◌, ◌≢◌, ◌⊎◌, ℕ, ◌+◌, ◌-◌, ◌*◌, ◌%◌, ◌<◌, ◌≤◌, Bool, not, List, ◌∷◌, ◌++◌, Option, Some, None, refl, sym, ◌∙◌, ap, subst, []}
use Rattle.tv_core.proofs.Common.{arith, true, false, inl, inr, cond, mod-lt, mod-eq_of_lt, slice_index, cond_both, cases_lt, value-cons, value-append}
use Rattle.tv_core.proofs.Common.{value-below, value-less, wire-below, Combination, Constraint, value, scaled, less, Assigns, normal, IsNormalFrom}
use Rattle.std.proofs.Common.{ltb, eqb, max, ltb-false, eqb-true, eq-eqb, add-mul, mul-add, mul_assoc, mul_comm, one-mul}
use Rattle.std.specs.List.{list_all}
use Rattle.std.proofs.lemmas.Bool.{eqb-false, or_cases, or_parts, and_parts, or_left, or_right, cond-false}
use Rattle.std.proofs.lemmas.Nat.{mul-mod_second}
use Rattle.std.proofs.lemmas.List.Sums.{sum_by-cons}
use Rattle.std.specs.Option.{option_or}
use Rattle.tv_core.proofs.CombinationLaws.{value-scaled}
use Rattle.tv_core.proofs.DifferenceLaws.{same_of_minus}
use Rattle.tv_core.proofs.InverseLaws.{mul-inverse_of, inverse_of-below}
use Rattle.tv_core.proofs.Residues.{add-mod_same, mul-mod_zero, mul-mod_one, same_of_difference}
use Rattle.tv_core.proofs.Unique.{summed, summed-none}
use Rattle.tv_core.specs.Constraints.{Holds}
use Rattle.tv_core.specs.Inverse.{inverse_of}
use Rattle.tv_core.specs.declared.field.TheConstants.{P}
use Rattle.tv_core.specs.Normal.{coefficient}
use Rattle.tv_shrink.specs.Substitution.{has_wire, without, constant_in, difference, linear_form, greater_from, greatest_from, solved, replaced}
use Rattle.tv_core.proofs.NormalLaws.{Over, Over-normal, Over-append, Over-scaled, value-normal, regrouped, exchanged, residue_first, IsNormalFrom-normal}

turned : (a b : ℕ) → (a + b % P) % P ≡ (b + a) % P
turned a b = omega arith

module _ (w : ℕ) (z : List ℕ) where
  split_step : (b : Bool) (t : ℕ × ℕ) (x : Combination) → eqb t.1 w ≡ b → value x z ≡ (summed w x * slice_index z w + value (without w x) z) % P →
      value (t ∷ x) z ≡ ((cond b t.0 0 + summed w x) * slice_index z w + value (cond (not b) (t ∷ without w x) (without w x)) z) % P
  split_step true t x e before =
      let n : ℕ = slice_index z w in
      let v : ℕ = value (without w x) z in
      value-cons t.0 t.1 x z
      ∙ ap (λ m. (t.0 * slice_index z m + value x z) % P) (eqb-true t.1 w e)
      ∙ ap (λ m. (t.0 * n + m) % P) before
      ∙ sym (regrouped (t.0 * n) (summed w x * n) v)
      ∙ ap (λ m. (m + v) % P) (sym (add-mul t.0 (summed w x) n))
  split_step false t x e before =
      let n : ℕ = slice_index z w in
      let m : ℕ = t.0 * slice_index z t.1 in
      let v : ℕ = value (without w x) z in
      value-cons t.0 t.1 x z
      ∙ ap (λ k. (m + k) % P) before
      ∙ exchanged (summed w x * n) m v
      ∙ ap (λ k. (summed w x * n + k) % P) (sym (value-cons t.0 t.1 (without w x) z))
      ∙ ap (λ k. (k * n + value (t ∷ without w x) z) % P) (omega arith)

  summed-value : (x : Combination) → value x z ≡ (summed w x * slice_index z w + value (without w x) z) % P
  unfolding without
  summed-value [] = omega arith
  summed-value (t ∷ x) =
      split_step (eqb t.1 w) t x refl (summed-value x)
      ∙ ap (λ k. (k * slice_index z w + value (without w (t ∷ x)) z) % P) (sym (sum_by-cons (λ u. cond (eqb u.1 w) u.0 0) t x))

  -- a wire's part of a value
  pub value-split : (x : Combination) → value x z ≡ (coefficient w x * slice_index z w + value (without w x) z) % P
  unfolding coefficient
  value-split x = summed-value x ∙ sym (residue_first (summed w x) (slice_index z w) (value (without w x) z))

  -- with r in place of the wire
  pub value-replaced : (r x : Combination) → slice_index z w ≡ value r z → value (replaced w r x) z ≡ value x z
  unfolding replaced
  value-replaced r x is =
      let k : ℕ = coefficient w x in
      let v : ℕ = value (without w x) z in
      cond_both (has_wire w x) (normal (without w x ++ scaled k r)) x (λ y. value y z ≡ value x z)
      (λ e. value-normal z (without w x ++ scaled k r)
      ∙ value-append (without w x) (scaled k r) z
      ∙ ap (λ n. (v + n) % P) (value-scaled k r z)
      ∙ ap (λ n. (v + k * n % P) % P) (sym is)
      ∙ turned v (k * slice_index z w)
      ∙ sym (value-split x))
      (λ e. refl)

-- what a wire is where k times it and a rest are 0, i being the inverse of k
both_parts : (i rest : ℕ) → i < P → ((P - i) * rest + i * rest) % P ≡ 0
both_parts i rest small =
    let whole : (P - i) + i ≡ P = omega arith in
    ap (λ n. n % P) (sym (add-mul (P - i) i rest)) ∙ mul-mod_zero ((P - i) + i) rest P (ap (λ n. n % P) whole)

solves : (i k v rest : ℕ) → i < P → k * i % P ≡ 1 → (k * v + rest) % P ≡ 0 → v % P ≡ (P - i) * rest % P
solves i k v rest small one none =
    let times : (k * v + rest) * i % P ≡ 0 = mul-mod_zero (k * v + rest) i P none in
    let apart : (k * v + rest) * i ≡ k * i * v + i * rest =
    add-mul (k * v) rest i ∙ ap (λ n. n + rest * i) (mul_assoc k v i ∙ ap (λ n. k * n) (mul_comm v i) ∙ sym (mul_assoc k i v))
    ∙ ap (λ n. k * i * v + n) (mul_comm rest i) in
    let undone : (v + i * rest) % P ≡ 0 = add-mod_same v (k * i * v) (i * rest) (i * rest) P (sym (mul-mod_one (k * i) v P one)) refl
    ∙ ap (λ n. n % P) (sym apart) ∙ times in
    same_of_difference v ((P - i) * rest) (i * rest) P (both_parts i rest small) undone

is_solved : (i k rest : ℕ) → i < P → k * i % P ≡ 1 → (k * ((P - i) * rest % P) + rest) % P ≡ 0
is_solved i k rest small one =
    let whole : (P - i) + i ≡ P = omega arith in
    let sum : (k * (P - i) + k * i) % P ≡ 0 =
    ap (λ n. n % P) (sym (mul-add k (P - i) i) ∙ ap (λ n. k * n) whole ∙ mul_comm k P) ∙ mul-mod_zero P k P refl in
    let none : (k * (P - i) + 1) % P ≡ 0 = omega arith in
    let grouped : k * ((P - i) * rest) + rest ≡ (k * (P - i) + 1) * rest =
    ap (λ n. n + rest) (sym (mul_assoc k (P - i) rest)) ∙ ap (λ n. k * (P - i) * rest + n) (sym (one-mul rest)) ∙ sym (add-mul (k * (P - i)) 1 rest) in
    add-mod_same (k * ((P - i) * rest % P)) (k * ((P - i) * rest)) rest rest P (mul-mod_second k ((P - i) * rest) P) refl
    ∙ ap (λ n. n % P) grouped
    ∙ mul-mod_zero (k * (P - i) + 1) rest P none

module _ (w : ℕ) (x : Combination) (z : List ℕ) (assigns : Assigns z) (apart : coefficient w x % P ≢ 0) where
  value-solved : value (solved w x) z ≡ (P - inverse_of (coefficient w x)) * value (without w x) z % P
  unfolding solved
  value-solved = value-normal z (scaled (P - inverse_of (coefficient w x)) (without w x)) ∙ value-scaled (P - inverse_of (coefficient w x)) (without w x) z

  pub solved-from_zero : value x z ≡ 0 → slice_index z w ≡ value (solved w x) z
  solved-from_zero none =
      let small = wire-below assigns w in
      sym (mod-eq_of_lt small)
      ∙ solves (inverse_of (coefficient w x)) (coefficient w x) (slice_index z w) (value (without w x) z) (inverse_of-below (coefficient w x))
      (mul-inverse_of (coefficient w x) apart) (sym (value-split w z x) ∙ none)
      ∙ sym value-solved

  pub zero-from_solved : slice_index z w ≡ value (solved w x) z → value x z ≡ 0
  zero-from_solved is =
      value-split w z x
      ∙ ap (λ n. (coefficient w x * n + value (without w x) z) % P) (is ∙ value-solved)
      ∙ is_solved (inverse_of (coefficient w x)) (coefficient w x) (value (without w x) z) (inverse_of-below (coefficient w x))
      (mul-inverse_of (coefficient w x) apart)

-- constants, and what a constraint says is 0
all_zero : (x : Combination) → list_all (λ t. eqb t.1 0) x ≡ true → without 0 x ≡ []
unfolding without
all_zero [] e = refl
all_zero (t ∷ x) e =
    let both = and_parts _ _ e in
    cond-false (not (eqb t.1 0)) (t ∷ without 0 x) (without 0 x) (ap not both.0) ∙ all_zero x both.1

pub none_some : {A : Type 0} (x : A) → None ≡ Some x → ⊥
none_some x e = cc

first_cases : (o p : Option Combination) (lin : Combination) → option_or o p ≡ Some lin → (o ≡ Some lin) ⊎ (p ≡ Some lin)
first_cases None p lin e = inr e
first_cases (Some x) p lin e = inl e

pub coefficient-below : (w : ℕ) (x : Combination) → coefficient w x < P
unfolding coefficient
coefficient-below w x = mod-lt (summed w x) (omega arith)

module _ (z : List ℕ) (assigns : Assigns z) where
  constant_of : (b : Bool) (x : Combination) (k : ℕ) → list_all (λ t. eqb t.1 0) x ≡ b → cond b (Some (coefficient 0 x)) None ≡ Some k → value x z ≡ k
  constant_of false x k e same = absurd (none_some k same)
  constant_of true x k e same =
      let is : coefficient 0 x ≡ k = cc in
      let first = assigns.one in
      let small : coefficient 0 x < P = coefficient-below 0 x in
      value-split 0 z x
      ∙ ap (λ n. (coefficient 0 x * n + value (without 0 x) z) % P) first
      ∙ ap (λ y. (coefficient 0 x * 1 + value y z) % P) (all_zero x e)
      ∙ omega arith

  pub value-constant_in : (x : Combination) (k : ℕ) → constant_in x ≡ Some k → value x z ≡ k
  unfolding constant_in
  value-constant_in x k e = constant_of (list_all (λ t. eqb t.1 0) x) x k refl e

  value-difference : (o : Option ℕ) (x y c lin : Combination) → constant_in x ≡ o → difference o y c ≡ Some lin
      → value lin z ≡ (value x z * value y z % P + (P - value c z)) % P
  unfolding difference
  value-difference None x y c lin e same = absurd (none_some lin same)
  value-difference (Some k) x y c lin e same =
      let is : normal (less (scaled k y) c) ≡ lin = cc in
      ap (λ l. value l z) (sym is)
      ∙ value-normal z (less (scaled k y) c)
      ∙ value-less (scaled k y) c z
      ∙ ap (λ n. (n + (P - value c z)) % P) (value-scaled k y z)
      ∙ ap (λ n. (n * value y z % P + (P - value c z)) % P) (sym (value-constant_in x k e))

  value-linear_form : (c : Constraint) (lin : Combination) → linear_form c ≡ Some lin → value lin z ≡ (value c.a z * value c.b z % P + (P - value c.c z)) % P
  unfolding linear_form
  value-linear_form c lin e =
      elim (first_cases (difference (constant_in c.a) c.b c.c) (difference (constant_in c.b) c.a c.c) lin e) [
        | inl first ↦ value-difference (constant_in c.a) c.a c.b c.c lin refl first
        | inr second ↦ value-difference (constant_in c.b) c.b c.a c.c lin refl second
            ∙ ap (λ n. (n % P + (P - value c.c z)) % P) (mul_comm (value c.b z) (value c.a z))
      ]

  same_where_zero : (m n : ℕ) → m < P → n < P → m ≡ n → (m + (P - n)) % P ≡ 0
  same_where_zero m n h k e = omega arith

  pub holds_where_zero : (c : Constraint) (lin : Combination) → linear_form c ≡ Some lin → value lin z ≡ 0 → Holds c z
  holds_where_zero c lin e none =
      same_of_minus (value c.a z * value c.b z % P) (value c.c z) (mod-lt (value c.a z * value c.b z) (omega arith)) (value-below c.c z)
      (sym (value-linear_form c lin e) ∙ none)

  pub zero_where_holds : (c : Constraint) (lin : Combination) → linear_form c ≡ Some lin → Holds c z → value lin z ≡ 0
  zero_where_holds c lin e holds =
      value-linear_form c lin e
      ∙ same_where_zero (value c.a z * value c.b z % P) (value c.c z) (mod-lt (value c.a z * value c.b z) (omega arith)) (value-below c.c z) holds

-- the wires of what is made
module _ (Q : ℕ → Type 0) where
  Over-less : (x y : Combination) → Over Q x → Over Q y → Over Q (less x y)
  Over-less x y h k = Over-append Q x (scaled (P - 1) y) h (Over-scaled Q (P - 1) y k)

  Over-difference : (o : Option ℕ) (x y lin : Combination) → Over Q x → Over Q y → difference o x y ≡ Some lin → Over Q lin × IsNormalFrom 0 lin
  unfolding difference
  Over-difference None x y lin h k same = absurd (none_some lin same)
  Over-difference (Some c) x y lin h k same =
      let is : normal (less (scaled c x) y) ≡ lin = cc in
      subst (λ l. Over Q l × IsNormalFrom 0 l) is
      (Over-normal Q (less (scaled c x) y) (Over-less (scaled c x) y (Over-scaled Q c x h) k), IsNormalFrom-normal (less (scaled c x) y))

  pub Over-linear_form : (c : Constraint) (lin : Combination) → Over Q c.a → Over Q c.b → Over Q c.c → linear_form c ≡ Some lin → Over Q lin
      × IsNormalFrom 0 lin
  unfolding linear_form
  Over-linear_form c lin h k l e =
      elim (first_cases (difference (constant_in c.a) c.b c.c) (difference (constant_in c.b) c.a c.c) lin e) [
        | inl first ↦ Over-difference (constant_in c.a) c.b c.c lin k l first
        | inr second ↦ Over-difference (constant_in c.b) c.a c.c lin h l second
      ]

  apart_step : (w : ℕ) (b : Bool) (t : ℕ × ℕ) (x y : Combination) → eqb t.1 w ≡ b → Q t.1 → Over (λ v. Q v × (v ≢ w)) y
      → Over (λ v. Q v × (v ≢ w)) (cond (not b) (t ∷ y) y)
  apart_step w true t x y e q h = h
  apart_step w false t x y e q h = ((q, eqb-false t.1 w e), h)

  Over-without : (w : ℕ) (x : Combination) → Over Q x → Over (λ v. Q v × (v ≢ w)) (without w x)
  unfolding without
  Over-without w [] h = tt
  Over-without w (t ∷ x) h = apart_step w (eqb t.1 w) t x (without w x) refl h.0 (Over-without w x h.1)

  pub Over-solved : (w : ℕ) (x : Combination) → Over Q x → Over (λ v. Q v × (v ≢ w)) (solved w x)
  unfolding solved
  Over-solved w x h =
      let R : ℕ → Type 0 = λ v. Q v × (v ≢ w) in
      Over-normal R (scaled (P - inverse_of (coefficient w x)) (without w x))
      (Over-scaled R (P - inverse_of (coefficient w x)) (without w x) (Over-without w x h))

  pub Over-lacking : (w : ℕ) (x : Combination) → Over Q x → has_wire w x ≡ false → Over (λ v. Q v × (v ≢ w)) x
  unfolding has_wire
  Over-lacking w [] h e = tt
  Over-lacking w (t ∷ x) h e = let both = or_parts _ _ e in ((h.0, eqb-false t.1 w both.0), Over-lacking w x h.1 both.1)

  pub Over-replaced : (w : ℕ) (r x : Combination) → Over Q x → Over (λ v. Q v × (v ≢ w)) r → Over (λ v. Q v × (v ≢ w)) (replaced w r x)
  unfolding replaced
  Over-replaced w r x h k =
      let R : ℕ → Type 0 = λ v. Q v × (v ≢ w) in
      cond_both (has_wire w x) (normal (without w x ++ scaled (coefficient w x) r)) x (Over R)
      (λ e. Over-normal R (without w x ++ scaled (coefficient w x) r)
      (Over-append R (without w x) (scaled (coefficient w x) r) (Over-without w x h) (Over-scaled R (coefficient w x) r k)))
      (λ e. Over-lacking w x h e)

  -- a wire that stands in a combination is one of its wires
  pub Over-has_wire : (w : ℕ) (x : Combination) → Over Q x → has_wire w x ≡ true → Q w
  unfolding has_wire
  Over-has_wire w [] h e = absurd (let no : false ≡ true = e in cc)
  Over-has_wire w (t ∷ x) h e = elim (or_cases _ _ e) [ inl here ↦ subst Q (eqb-true t.1 w here) h.0 | inr later ↦ Over-has_wire w x h.1 later ]

-- the greatest wire stands in a normal combination, and its coefficient is not 0
lone : (least w g : ℕ) (b : Bool) → ltb w least ≡ b → cond b None (Some w) ≡ Some g → (g ≡ w) × (least ≤ w)
lone least w g true e same = absurd (none_some g same)
lone least w g false e same = (cc, ltb-false w least e)

pub found_here : (w : ℕ) (t : ℕ × ℕ) (x : Combination) → w ≡ t.1 → has_wire w (t ∷ x) ≡ true
unfolding has_wire
found_here w t x e = or_left (eqb t.1 w) (has_wire w x) (eq-eqb t.1 w (sym e))

pub found_later : (w : ℕ) (t : ℕ × ℕ) (x : Combination) → has_wire w x ≡ true → has_wire w (t ∷ x) ≡ true
unfolding has_wire
found_later w t x e = or_right (eqb t.1 w) (has_wire w x) e

greatest_step : (least w : ℕ) (t : ℕ × ℕ) (x : Combination) (o : Option ℕ) → ((v : ℕ) → o ≡ Some v → (least ≤ v) × (has_wire v x ≡ true))
    → greater_from least t.1 o ≡ Some w → (least ≤ w) × (has_wire w (t ∷ x) ≡ true)
unfolding greater_from
greatest_step least w t x None before e = let is = lone least t.1 w (ltb t.1 least) refl e in (omega (arith, is.0, is.1), found_here w t x is.0)
greatest_step least w t x (Some v) before e =
    let is : max t.1 v ≡ w = cc in
    let earlier = before v refl in
    elim (cases_lt v t.1) [
      | inl above ↦ (omega (arith, earlier.0), found_here w t x (omega arith))
      | inr below ↦ let same : v ≡ w = omega arith in (omega (arith, earlier.0), found_later w t x (subst (λ u. has_wire u x ≡ true) same earlier.1))
    ]

pub greatest_is : (least w : ℕ) (x : Combination) → greatest_from least x ≡ Some w → (least ≤ w) × (has_wire w x ≡ true)
unfolding greatest_from
greatest_is least w [] e = absurd (none_some w e)
greatest_is least w (t ∷ x) e = greatest_step least w t x (greatest_from least x) (λ v. greatest_is least v x) e

summed_step : (w : ℕ) (b : Bool) (t : ℕ × ℕ) (x : Combination) → eqb t.1 w ≡ b → (0 < t.0) × (t.0 < P) → IsNormalFrom (t.1 + 1) x
    → ((b ≡ false) → (0 < summed w x) × (summed w x < P)) → (0 < cond b t.0 0 + summed w x) × (cond b t.0 0 + summed w x < P)
summed_step w true t x e small n later = let none = summed-none (t.1 + 1) w x n (omega (arith, eqb-true t.1 w e)) in
    (omega (arith, small.0), omega (arith, small.1))
summed_step w false t x e small n later = let is = later refl in (omega (arith, is.0), omega (arith, is.1))

has_later : (w : ℕ) (t : ℕ × ℕ) (x : Combination) → has_wire w (t ∷ x) ≡ true → eqb t.1 w ≡ false → has_wire w x ≡ true
unfolding has_wire
has_later w t x e f = elim (or_cases _ _ e) [ inl here ↦ absurd (let both : true ≡ false = sym here ∙ f in cc) | inr later ↦ later ]

pub none_has : (w : ℕ) → has_wire w [] ≡ true → ⊥
unfolding has_wire
none_has w e = let no : false ≡ true = e in cc

summed-some : (least w : ℕ) (x : Combination) → IsNormalFrom least x → has_wire w x ≡ true → (0 < summed w x) × (summed w x < P)
summed-some least w [] n e = absurd (none_has w e)
summed-some least w (t ∷ x) n e =
    subst (λ k. (0 < k) × (k < P)) (sym (sum_by-cons (λ u. cond (eqb u.1 w) u.0 0) t x))
    (summed_step w (eqb t.1 w) t x refl (n.1, n.2) n.3 (λ f. summed-some (t.1 + 1) w x n.3 (has_later w t x e f)))

pub coefficient-apart : (w : ℕ) (x : Combination) → IsNormalFrom 0 x → has_wire w x ≡ true → coefficient w x % P ≢ 0
unfolding coefficient
coefficient-apart w x n e none = let is = summed-some 0 w x n e in absurd (omega (arith, is.0, is.1))
