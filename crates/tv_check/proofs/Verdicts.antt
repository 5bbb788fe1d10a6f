-- What a verdict says of the system, the assignment and the public numbers.
use Rattle.tv_core.proofs.Common.{◌≡◌, ◌≢◌, ℕ, suc, ◌+◌, ◌<◌, ◌≤◌, ◌==◌, Bool, true, false, cond, List, [], ◌∷◌, length, take, drop, Option, Some, None, All}
use Rattle.tv_core.proofs.Common.{refl, sym, ap, ◌∙◌, arith, eqb-true, eq-eqb, ne_eqb}
use Rattle.std.proofs.Common.{◌↔◌, length-take}
use Rattle.std.specs.Prelude.{slice_get}
use Rattle.std.proofs.lemmas.Bool.{eqb-false}
use Rattle.std.proofs.lemmas.List.Elements.{All-from_recursion, recursion_from_All}
use Rattle.tv_core.specs.Constraints.{System, Sat, Extends}
use Rattle.tv_core.specs.Meanings.{first_failure}
use Rattle.tv_core.specs.declared.field.TheConstants.{P}
use Rattle.tv_check.specs.declared.verdict.Verdict.{Verdict}
use Rattle.tv_check.specs.declared.verdict.Verdict.TheVariants.{Yes, WireCount, NoPublic, NoConstraint}
use Rattle.tv_check.specs.Verdict.{HasRoom, first_difference, constraint_verdict, public_verdict, judge}
use Rattle.tv_check.specs.Meaning.{VerdictMeans}
use Rattle.tv_check.proofs.Firsts.{all_hold, none_fails, fails_at, failing_of, same_lists, no_difference, differ, difference_of}

-- z begins with 1 and x
begins : (x z : List ℕ) (m n : ℕ) → m ≡ suc n → m ≤ length z → 1 ∷ x ≡ take m z → (slice_get z 0 ≡ Some 1) × (n ≡ length x) × (take (length x) (drop 1 z) ≡ x)
begins x [] m n is le e = absurd (omega arith)
begins x (v ∷ vs) m n is le e =
    let e' : 1 ∷ x ≡ v ∷ take n vs = rw is at e in
    let first : 1 ≡ v = cc in
    let others : x ≡ take n vs = cc in
    let len : n ≡ length x = omega (arith, ap length others, length-take n vs) in
    (ap (λ w. Some w) (sym first), len, rw (← len) (sym others))

begins_back : (x z : List ℕ) (m n : ℕ) → m ≡ suc n → slice_get z 0 ≡ Some 1 → n ≡ length x → take (length x) (drop 1 z) ≡ x → 1 ∷ x ≡ take m z
begins_back x [] m n is one len values = absurd cc
begins_back x (v ∷ vs) m n is one len values =
    let first : v ≡ 1 = cc in
    rw (is, first, len, values) refl

-- ---- verdicts

abbrev chosen : Bool → Option ℕ → Option ℕ → ℕ → ℕ → Verdict
chosen test public failing has wants = cond test (public_verdict public (constraint_verdict failing)) (WireCount has wants)

-- what was chosen says which came first
abbrev Chose : Bool → Option ℕ → Option ℕ → ℕ → ℕ → Verdict → Type 0
Chose test public failing has wants Yes = (test ≡ true) × (public ≡ None) × (failing ≡ None)
Chose test public failing has wants (WireCount h w) = (test ≡ false) × (has ≡ h) × (wants ≡ w)
Chose test public failing has wants (NoPublic at) = (test ≡ true) × (public ≡ Some at)
Chose test public failing has wants (NoConstraint at) = (test ≡ true) × (public ≡ None) × (failing ≡ Some at)

chose : (test : Bool) (public failing : Option ℕ) (has wants : ℕ) (verdict : Verdict) → chosen test public failing has wants ≡ verdict →
    Chose test public failing has wants verdict
chose true None None has wants verdict e = rw (← e) (refl, refl, refl)
chose true None (Some at) has wants verdict e = rw (← e) (refl, refl, refl)
chose true (Some at) failing has wants verdict e = rw (← e) (refl, refl)
chose false public failing has wants verdict e = rw (← e) (refl, refl, refl)

judge_chose : (s : System) (z x : List ℕ) (verdict : Verdict) → judge s z x ≡ verdict →
    Chose (length z == s.wires) (first_difference (1 ∷ x) (take (1 + s.outputs + s.inputs) z)) (first_failure z 0 s.constraints) (length z) s.wires verdict
judge_chose s z x verdict e =
    chose (length z == s.wires) (first_difference (1 ∷ x) (take (1 + s.outputs + s.inputs) z)) (first_failure z 0 s.constraints) (length z) s.wires verdict e

-- yes comes exactly where the assignment satisfies the system and extends the numbers
yes_means : (system : System) (z x : List ℕ) → HasRoom system → All (λ v. v < P) z → judge system z x ≡ Yes → Sat system z × Extends system z x
yes_means system z x room below e =
    let is = judge_chose system z x Yes e in
    let wires : length z ≡ system.wires = eqb-true _ _ is.0 in
    let public = begins x z (1 + system.outputs + system.inputs) (system.outputs + system.inputs) (omega arith) (omega arith) (same_lists _ _ is.1) in (
      record { each_wire = wires; below = below; one = public.0; holds = All-from_recursion _ system.constraints (all_hold z system.constraints is.2) },
      record { publics = public.1; values = public.2 },
    )

judged_yes : (system : System) (z x : List ℕ) → Sat system z → Extends system z x → judge system z x ≡ Yes
judged_yes system z x sat extends =
    let wires : length z == system.wires ≡ true = eq-eqb _ _ sat.each_wire in
    let front = begins_back x z (1 + system.outputs + system.inputs) (system.outputs + system.inputs) (omega arith) sat.one extends.publics extends.values in
    let public : first_difference (1 ∷ x) (take (1 + system.outputs + system.inputs) z) ≡ None = rw (← front) (no_difference (1 ∷ x)) in
    let constraints = none_fails z system.constraints (recursion_from_All _ system.constraints sat.holds) in
    rw (wires, public, constraints) refl

pub yes_exactly : (system : System) (z x : List ℕ) → HasRoom system → All (λ v. v < P) z → (judge system z x ≡ Yes) ↔ VerdictMeans Yes system z x
yes_exactly system z x room below = (yes_means system z x room below, λ both. judged_yes system z x both.0 both.1)

-- a no is true
no_means : (s : System) (z x : List ℕ) (verdict : Verdict) → verdict ≢ Yes → judge s z x ≡ verdict → VerdictMeans verdict s z x
no_means s z x Yes other e = absurd (other refl)
no_means s z x (WireCount has wants) other e =
    let chose = judge_chose s z x (WireCount has wants) e in
    let differ = eqb-false (length z) s.wires chose.0 in
    (chose.1, chose.2, λ same. differ (chose.1 ∙ same ∙ sym chose.2))
no_means s z x (NoPublic at) other e =
    let chose = judge_chose s z x (NoPublic at) e in
    (eqb-true (length z) s.wires chose.0, differ (1 ∷ x) (take (1 + s.outputs + s.inputs) z) at chose.1)
no_means s z x (NoConstraint at) other e =
    let chose = judge_chose s z x (NoConstraint at) e in
    let first = fails_at z s.constraints at chose.2 in (
      eqb-true (length z) s.wires chose.0,
      same_lists (1 ∷ x) (take (1 + s.outputs + s.inputs) z) chose.1,
      record { before = All-from_recursion _ (take at s.constraints) first.3; failing = first.0; there = first.1; fails = first.2 },
    )

-- a true no is the verdict
judged_no : (s : System) (z x : List ℕ) (verdict : Verdict) → verdict ≢ Yes → VerdictMeans verdict s z x → judge s z x ≡ verdict
judged_no s z x Yes other wrong = absurd (other refl)
judged_no s z x (WireCount has wants) other wrong =
    let test : length z == s.wires ≡ false = ne_eqb (length z) s.wires (λ same. wrong.2 (sym wrong.0 ∙ same ∙ wrong.1)) in
    rw (test, wrong.0, wrong.1) refl
judged_no s z x (NoPublic at) other wrong =
    let test : length z == s.wires ≡ true = eq-eqb (length z) s.wires wrong.0 in
    let public = difference_of (1 ∷ x) (take (1 + s.outputs + s.inputs) z) at wrong.1 in
    rw (test, public) refl
judged_no s z x (NoConstraint at) other wrong =
    let test : length z == s.wires ≡ true = eq-eqb (length z) s.wires wrong.0 in
    let public : first_difference (1 ∷ x) (take (1 + s.outputs + s.inputs) z) ≡ None = rw (← wrong.1) (no_difference (1 ∷ x)) in
    let failing = failing_of z s.constraints at wrong.2.failing wrong.2.there wrong.2.fails (recursion_from_All _ (take at s.constraints) wrong.2.before) in
    rw (test, public, failing) refl

pub no_exactly : (s : System) (z x : List ℕ) (verdict : Verdict) → verdict ≢ Yes → (judge s z x ≡ verdict) ↔ VerdictMeans verdict s z x
no_exactly s z x verdict other = (no_means s z x verdict other, judged_no s z x verdict other)
