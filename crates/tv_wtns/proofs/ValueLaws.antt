-- What the values of an assignment are.
use Rattle.tv_core.proofs.Common.{◌≡◌, ℕ, ◌+◌, ◌<◌, zero, suc, List, length, not, Ok, nat_lt, ap, refl}
use Rattle.std.proofs.lemmas.Bool.{ltb-true, not-false}
use Rattle.std.proofs.lemmas.Result.{IfOk-at_ok, IfOk-weaker}
use Rattle.std.specs.Prelude.{IfOk}
use Rattle.std.proofs.lemmas.List.Elements.{All-nil, All-cons}
use Rattle.std.specs.List.{All}
use Rattle.tv_core.specs.declared.field.TheConstants.{P}
use Rattle.tv_container.specs.Places.{number, unless}
use Rattle.tv_container.specs.Field.{this_field}
use Rattle.tv_container.specs.Sections.{sections_of, wanted}
use Rattle.tv_container.specs.declared.why.ReadWhy.TheVariants.{NotCanonical}
use Rattle.tv_container.proofs.Chain.{bind_any, bind_if, passed}
use Rattle.tv_wtns.specs.Wtns.{values_at, counted, fills, assignment_in, assignment_of, AssignmentsAreBelow}

-- values below the prime, as many as are counted
abbrev Are : ℕ → List ℕ → Type 0
Are n values = All (λ v. v < P) values × (length values ≡ n)

values_are : (file : List ℕ) (n at : ℕ) → IfOk (values_at file n at) (Are n)
unfolding values_at
values_are file zero at = (All-nil (λ v. v < P), refl)
values_are file (suc n) at =
    let value = number file 8 at in
    bind_if (unless (not (nat_lt value P)) at NotCanonical) _ _ (Are (suc n)) (passed _ _ _) (λ _ below.
    bind_if (values_at file n (at + 8)) _ (Are n) (Are (suc n)) (values_are file n (at + 8)) (λ others are.
    (All-cons (λ v. v < P) value others (ltb-true value P (not-false (nat_lt value P) below)) are.0, ap suc are.1)))

pub values_counted : (file : List ℕ) (n at : ℕ) (values : List ℕ) → values_at file n at ≡ Ok values → length values ≡ n
values_counted file n at values is = (IfOk-at_ok (Are n) is (values_are file n at)).1

pub assignments_below : AssignmentsAreBelow
unfolding assignment_of assignment_in
assignments_below file values is =
    IfOk-at_ok (λ z. All (λ v. v < P) z) is
    (bind_any (sections_of 2 0x736e7477 2 file) _ _ (λ sections.
    bind_any (wanted 1 file sections) _ _ (λ one.
    bind_any (wanted 2 file sections) _ _ (λ two.
    bind_any (this_field file 16 one) _ _ (λ _.
    bind_any (fills (counted file one) two) _ _ (λ _.
    IfOk-weaker (values_at file (counted file one) two.at) _ _ (λ z are. are.0) (values_are file (counted file one) two.at)))))))
