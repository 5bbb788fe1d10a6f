-- The first of a list that is wrong: a constraint that doesn't hold, or a place where two lists differ.
use Rattle.tv_core.proofs.Common.{◌≡◌, ℕ, zero, suc, ◌+◌, ◌==◌, ◌⊎◌, Bool, true, false, cond, List, [], ◌∷◌, take, Option, Some, None, inl, inr, refl, sym, ap}
use Rattle.tv_core.proofs.Common.{◌∙◌, arith, eqb-true, eq-eqb, ne_eqb, Constraint}
use Rattle.std.specs.Prelude.{slice_get}
use Rattle.std.specs.Option.{option_map}
use Rattle.std.specs.List.{AllByRecursion}
use Rattle.std.proofs.lemmas.Bool.{eqb-false}
use Rattle.tv_core.specs.Constraints.{Holds}
use Rattle.tv_core.specs.Meanings.{holds, first_failure}
use Rattle.tv_check.specs.Verdict.{first_difference}
use Rattle.tv_check.specs.Meaning.{DifferFirst}

-- ---- the first of a list: here, or one place after one of the rest

none_after : (test : Bool) (rest : Option ℕ) → cond test (option_map suc rest) (Some 0) ≡ None → (test ≡ true) × (rest ≡ None)
none_after true None e = (refl, refl)
none_after true (Some k) e = absurd cc
none_after false rest e = absurd cc

some_after : (test : Bool) (rest : Option ℕ) (at : ℕ) → cond test (option_map suc rest) (Some 0) ≡ Some at
    → ((test ≡ false) × (at ≡ 0)) ⊎ ((k : ℕ) × (test ≡ true) × (rest ≡ Some k) × (at ≡ suc k))
some_after true None at e = absurd cc
some_after true (Some k) at e = inr (k, refl, refl, cc)
some_after false rest at e = inl (refl, cc)

-- ---- constraints

-- from one place on the first failure is one place further
first_failure-suc : (z : List ℕ) (at : ℕ) (constraints : List Constraint)
    → first_failure z (at + 1) constraints ≡ option_map suc (first_failure z at constraints)
first_failure-suc z at [] = refl
first_failure-suc z at (c ∷ cs) = by_test (holds z c) _ (first_failure z (at + 1) cs) (first_failure-suc z (at + 1) cs)
  where
    by_test : (test : Bool) (later first : Option ℕ) → later ≡ option_map suc first
        → cond test later (Some (at + 1)) ≡ option_map suc (cond test first (Some at))
    by_test true later first same = same
    by_test false later first same = ap (λ n. Some n) (omega arith)

pub first_failure-cons : (z : List ℕ) (c : Constraint) (cs : List Constraint) →
    first_failure z 0 (c ∷ cs) ≡ cond (holds z c) (option_map suc (first_failure z 0 cs)) (Some 0)
first_failure-cons z c cs = ap (λ rest. cond (holds z c) rest (Some 0)) (first_failure-suc z 0 cs)

pub all_hold : (z : List ℕ) (constraints : List Constraint) → first_failure z 0 constraints ≡ None
    → AllByRecursion (λ constraint. Holds constraint z) constraints
all_hold z [] e = tt
all_hold z (c ∷ cs) e =
    let both = none_after (holds z c) (first_failure z 0 cs) (sym (first_failure-cons z c cs) ∙ e) in
    (eqb-true _ _ both.0, all_hold z cs both.1)

pub none_fails : (z : List ℕ) (constraints : List Constraint) → AllByRecursion (λ constraint. Holds constraint z) constraints
    → first_failure z 0 constraints ≡ None
none_fails z [] h = refl
none_fails z (c ∷ cs) h =
    let yes : holds z c ≡ true = eq-eqb _ _ h.0 in
    first_failure-cons z c cs ∙ rw (yes, none_fails z cs h.1) refl

-- the first that fails, with what is known of it
pub fails_at : (z : List ℕ) (constraints : List Constraint) (at : ℕ) → first_failure z 0 constraints ≡ Some at
    → (c : Constraint) × (slice_get constraints at ≡ Some c) × (¬ (Holds c z)) × AllByRecursion (λ constraint. Holds constraint z) (take at constraints)
fails_at z [] at e = absurd cc
fails_at z (c ∷ cs) at e =
    elim (some_after (holds z c) (first_failure z 0 cs) at (sym (first_failure-cons z c cs) ∙ e)) [
      | inl here ↦ rw here.1 (c, refl, eqb-false _ _ here.0, tt)
      | inr later ↦
          let rest = fails_at z cs later.0 later.2 in
          rw later.3 (rest.0, rest.1, rest.2, (eqb-true _ _ later.1, rest.3))
    ]

-- the first constraint that fails is reported
pub failing_of : (z : List ℕ) (constraints : List Constraint) (at : ℕ) (failing : Constraint) → slice_get constraints at ≡ Some failing → ¬ (Holds failing z) →
    AllByRecursion (λ constraint. Holds constraint z) (take at constraints) → first_failure z 0 constraints ≡ Some at
failing_of z [] at failing there fails before = cc
failing_of z (c ∷ cs) zero failing there fails before =
    let same : c ≡ failing = cc in
    let no : holds z c ≡ false = ne_eqb _ _ (rw (← same) at fails) in first_failure-cons z c cs ∙ rw no refl
failing_of z (c ∷ cs) (suc at) failing there fails before =
    let yes : holds z c ≡ true = eq-eqb _ _ before.0 in
    let others = failing_of z cs at failing there fails before.1 in
    first_failure-cons z c cs ∙ rw (yes, others) refl

-- ---- public numbers

pub same_lists : (xs ys : List ℕ) → first_difference xs ys ≡ None → xs ≡ ys
same_lists [] [] e = refl
same_lists [] (y ∷ ys) e = absurd cc
same_lists (x ∷ xs) [] e = absurd cc
same_lists (x ∷ xs) (y ∷ ys) e =
    let both = none_after (x == y) (first_difference xs ys) e in
    let first = eqb-true x y both.0 in
    let others = same_lists xs ys both.1 in
    cc

pub no_difference : (xs : List ℕ) → first_difference xs xs ≡ None
no_difference [] = refl
no_difference (x ∷ xs) = let yes : x == x ≡ true = eq-eqb x x refl in rw (yes, no_difference xs) refl

pub differ : (xs ys : List ℕ) (at : ℕ) → first_difference xs ys ≡ Some at → DifferFirst xs ys at
differ [] [] at e = absurd cc
differ [] (y ∷ ys) at e = let zero-is : at ≡ 0 = cc in rw zero-is (record { before = refl; there = λ h. absurd cc })
differ (x ∷ xs) [] at e = let zero-is : at ≡ 0 = cc in rw zero-is (record { before = refl; there = λ h. absurd cc })
differ (x ∷ xs) (y ∷ ys) at e =
    elim (some_after (x == y) (first_difference xs ys) at e) [
      | inl here ↦ rw here.1 (record { before = refl; there = λ h. eqb-false x y here.0 cc })
      | inr later ↦
          let rest = differ xs ys later.0 later.2 in
          let first = eqb-true x y later.1 in
          let fronts : x ∷ take later.0 xs ≡ y ∷ take later.0 ys = cc (rest.before) in
          rw later.3 (record { before = fronts; there = rest.there })
    ]

-- the first place where two lists differ is reported
pub difference_of : (xs ys : List ℕ) (at : ℕ) → DifferFirst xs ys at → first_difference xs ys ≡ Some at
difference_of [] [] at differ = absurd (differ.there refl)
difference_of [] (y ∷ ys) zero differ = refl
difference_of [] (y ∷ ys) (suc at) differ = let before = differ.before in cc
difference_of (x ∷ xs) [] zero differ = refl
difference_of (x ∷ xs) [] (suc at) differ = let before = differ.before in cc
difference_of (x ∷ xs) (y ∷ ys) zero differ =
    let no : x == y ≡ false = ne_eqb x y (λ same. differ.there (ap (λ v. Some v) same)) in rw no refl
difference_of (x ∷ xs) (y ∷ ys) (suc at) differ =
    let before = differ.before in
    let first : x == y ≡ true = eq-eqb x y cc in
    let others = difference_of xs ys at (record { before = cc; there = differ.there }) in
    rw (first, others) refl
