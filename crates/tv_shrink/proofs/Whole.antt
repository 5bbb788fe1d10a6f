-- The constraints of a system that a file holds are of wires that there are.
use Rattle.tv_core.proofs.Common.{ℕ, zero, suc, ◌+◌, ◌-◌, ◌==◌, ◌<◌, not, Bool, true, false, List, Result, Ok, Err, if◌then◌else◌, [], Constraint}
use Rattle.std.proofs.Common.{ltb}
use Rattle.std.specs.Prelude.{IfOk}
use Rattle.std.specs.List.{All}
use Rattle.std.proofs.lemmas.Bool.{ltb-true, not-false}
use Rattle.std.proofs.lemmas.List.Elements.{All-nil, All-cons}
use Rattle.tv_container.proofs.Chain.{bind_any, bind_if, passed}
use Rattle.tv_container.specs.Places.{Fault, unless, number, fit}
use Rattle.tv_container.specs.declared.sections.Section.{Section}
use Rattle.tv_container.specs.declared.why.ReadWhy.TheVariants.{BadCount, WireRange, NotCanonical}
use Rattle.tv_core.specs.declared.field.TheConstants.{P}
use Rattle.tv_r1cs_read.specs.R1cs.{term_at, terms_at, count_at, combination_at, constraint_at, constraints_from, header_of, r1cs_system}
use Rattle.tv_r1cs_write.specs.Narrow.{HasWiresBelow}
use Rattle.tv_shrink.specs.Laws.{AreOver, SystemsAreOver}

term_over : (file : List ℕ) (wires end at : ℕ) → IfOk (term_at file wires end at) (λ term. term.1 < wires)
unfolding term_at
term_over file wires end at =
    bind_any (fit 12 at end) _ _ (λ _.
    bind_if (unless (not (ltb (number file 4 at) wires)) at (WireRange (number file 4 at) wires)) _ _ _ (passed _ _ _) (λ _ below.
    bind_any (unless (not (ltb (number file 8 (at + 4)) P)) (at + 4) NotCanonical) _ _ (λ _.
    ltb-true (number file 4 at) wires (not-false (ltb (number file 4 at) wires) below))))

terms_over : (file : List ℕ) (wires end n at : ℕ) → IfOk (terms_at file wires end n at) (λ read. HasWiresBelow wires read.value)
unfolding terms_at
terms_over file wires end zero at = All-nil (λ t. t.1 < wires)
terms_over file wires end (suc n) at =
    bind_if (term_at file wires end at) _ _ _ (term_over file wires end at) (λ term below.
    bind_if (terms_at file wires end n (at + 12)) _ _ _ (terms_over file wires end n (at + 12)) (λ others over.
    All-cons (λ t. t.1 < wires) term others.value below over))

combination_over : (file : List ℕ) (wires end at : ℕ) → IfOk (combination_at file wires end at) (λ read. HasWiresBelow wires read.value)
unfolding combination_at
combination_over file wires end at = bind_any (count_at file end at) _ _ (λ count. terms_over file wires end count (at + 4))

constraint_over : (file : List ℕ) (wires end at : ℕ) → IfOk (constraint_at file wires end at) (λ read. AreOver wires read.value)
unfolding constraint_at
constraint_over file wires end at =
    bind_if (combination_at file wires end at) _ _ _ (combination_over file wires end at) (λ a over_a.
    bind_if (combination_at file wires end a.next) _ _ _ (combination_over file wires end a.next) (λ b over_b.
    bind_if (combination_at file wires end b.next) _ _ _ (combination_over file wires end b.next) (λ c over_c.
    record { a = over_a; b = over_b; c = over_c })))

-- no constraint, or a fault
abbrev none_or : Bool → Fault → Result (List Constraint) Fault
none_or whole fault = if whole then Ok [] else Err fault

none_over : (wires : ℕ) (whole : Bool) (fault : Fault) → IfOk (none_or whole fault) (λ list. All (AreOver wires) list)
none_over wires true fault = All-nil (AreOver wires)
none_over wires false fault = tt

constraints_over : (file : List ℕ) (wires : ℕ) (rows : Section) (n at : ℕ) → IfOk (constraints_from file wires rows n at) (λ list. All (AreOver wires) list)
unfolding constraints_from
constraints_over file wires rows zero at = none_over wires (at == rows.at + rows.size) (record { at = rows.at; why = BadCount rows.size (at - rows.at) })
constraints_over file wires rows (suc n) at =
    bind_if (constraint_at file wires (rows.at + rows.size) at) _ _ _ (constraint_over file wires (rows.at + rows.size) at) (λ first over.
    bind_if (constraints_from file wires rows n first.next) _ _ _ (constraints_over file wires rows n first.next) (λ others each.
    All-cons (AreOver wires) first.value others over each))

pub systems_are_over : SystemsAreOver
unfolding r1cs_system
systems_are_over file =
    bind_any (header_of file) _ _ (λ header.
    bind_if (constraints_from file header.wires header.rows header.constraints header.rows.at) _ _ _
    (constraints_over file header.wires header.rows header.constraints header.rows.at) (λ list each. each))
