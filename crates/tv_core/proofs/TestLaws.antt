-- A tested list with one constraint more.
use Rattle.std.proofs.Common.{◌≡◌, ℕ, ◌+◌, ◌%◌, Bool, true, false, not, if◌then◌else◌, List, [], ◌∷◌, ◌++◌, length, Option, Some, None, sum_by, count_by}
use Rattle.std.proofs.Common.{refl, sym, ◌∙◌, ap, ap₂, arith, length-append, add-zero, zero-add}
use Rattle.std.specs.Bool.{then_some}
use Rattle.std.specs.Int.{from_bool}
use Rattle.std.specs.Option.{option_or}
use Rattle.std.proofs.lemmas.List.Sums.{sum_by_push}
use Rattle.std.proofs.Math.Nat.{mod-add-mod}
use Rattle.tv_core.specs.Constraints.{Constraint}
use Rattle.tv_core.specs.Meanings.{Tested, IsTested, holds, product_in, first_failure}
use Rattle.tv_core.specs.declared.field.TheConstants.{P}

-- the failure of a constraint at a place, if it fails
failure : List ℕ → Constraint → ℕ → Option ℕ
failure z constraint at = if holds z constraint then None else Some at

failure_by : Bool → List ℕ → ℕ → List Constraint → Option ℕ
failure_by b z at rest = if b then first_failure z (at + 1) rest else Some at

first_failure-push_by : (b : Bool) (z : List ℕ) (at : ℕ) (rest more : List Constraint) (last : Option ℕ)
    → first_failure z (at + 1) more ≡ option_or (first_failure z (at + 1) rest) last
    → failure_by b z at more ≡ option_or (failure_by b z at rest) last
unfolding failure_by
first_failure-push_by true z at rest more last e = e
first_failure-push_by false z at rest more last e = refl

first_failure-push : (z : List ℕ) (at : ℕ) (list : List Constraint) (constraint : Constraint)
    → first_failure z at (list ++ constraint ∷ []) ≡ option_or (first_failure z at list) (failure z constraint (at + length list))
unfolding failure failure_by
first_failure-push z at [] constraint = rw add-zero refl
first_failure-push z at (first ∷ rest) constraint =
    let same : at + 1 + length rest ≡ at + length (first ∷ rest) = omega arith in
    first_failure-push_by (holds z first) z at rest (rest ++ constraint ∷ []) (failure z constraint (at + length (first ∷ rest)))
    (rw same at (first_failure-push z (at + 1) rest constraint))

-- as the code has it: whether the constraint holds, and the product
count_of : (b : Bool) → from_bool b ≡ (if b then 1 else 0)
count_of true = refl
count_of false = refl

place_of : (b : Bool) (place : ℕ) → then_some (not b) place ≡ (if b then None else Some place)
place_of true place = refl
place_of false place = refl

pub IsTested-push : (old new : Tested) (constraint : Constraint) (list : List Constraint) (b : Bool)
    → b ≡ holds old.z constraint
    → new.z ≡ old.z
    → new.tested ≡ old.tested + 1
    → new.held ≡ old.held + from_bool b
    → new.first_failed ≡ option_or old.first_failed (then_some (not b) old.tested)
    → new.sum ≡ (old.sum + product_in old.z constraint) % P
    → IsTested old list → IsTested new (list ++ constraint ∷ [])
unfolding failure
IsTested-push old new constraint list b is z tested held first_failed sum before =
    let one : from_bool b ≡ (if holds old.z constraint then 1 else 0) = count_of b ∙ ap (λ y. if y then 1 else 0) is in
    let place : then_some (not b) old.tested ≡ failure old.z constraint (0 + length list) =
    place_of b old.tested ∙ ap₂ (λ y n. if y then None else Some n) is (before.tested ∙ sym (zero-add (length list))) in
    let all = list ++ constraint ∷ [] in
    record {
      tested = tested ∙ omega (arith, before.tested, length-append list (constraint ∷ []));
      held = held ∙ ap₂ (λ m n. m + n) before.held one ∙ sym (sum_by_push (λ c. if holds old.z c then 1 else 0) list constraint)
          ∙ ap (λ y. count_by (holds y) all) (sym z);
      first_failed = first_failed ∙ ap₂ option_or before.first_failed place ∙ sym (first_failure-push old.z 0 list constraint)
          ∙ ap (λ y. first_failure y 0 all) (sym z);
      sum = sum ∙ ap (λ n. (n + product_in old.z constraint) % P) before.sum ∙ mod-add-mod _ P _
          ∙ ap (λ n. n % P) (sym (sum_by_push (product_in old.z) list constraint)) ∙ ap (λ y. sum_by (product_in y) all % P) (sym z);
    }
