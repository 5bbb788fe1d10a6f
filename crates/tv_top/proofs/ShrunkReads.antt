-- From what shrinking the system of a file came to to what a look at the file found.
use Rattle.tv_core.proofs.Common.{◌≡◌, ℕ, ◌≤◌, List, [], ◌∷◌, Option, Some, Result, Ok, Err, inl, inr, refl, arith, le-ltb, lt-ltb}
use Rattle.std.specs.Prelude.{MatchResult}
use Rattle.tv_container.specs.Reading.{Known, IsMissing}
use Rattle.tv_core.specs.Constraints.{System}
use Rattle.tv_shrink.specs.Answers.{most, all_terms, FaultMeans, Halted, HaltsBy}
use Rattle.tv_shrink.specs.Answers as shrinking
use Rattle.tv_r1cs_write.specs.Shrunken.{Shrunken}
use Rattle.tv_shrink.specs.declared.fault.ShrinkFault.{ShrinkFault}
use Rattle.tv_shrink.specs.declared.fault.ShrinkFault.TheVariants as fault
use Rattle.tv_plan.specs.Containers.{system_in}
use Rattle.tv_top.specs.Shrink.{shrink_flaws, shrink_stop, shrunk_of, shrunk_look}
use Rattle.tv_plan.proofs.Common.{Outside, Rose, IsFound, Finds, Spares, Named, Look, ◌>>=◌, look_on, held_at, input, made_of, settled}
use Rattle.tv_plan.specs.declared.refusal.Bad.{Bad}
use Rattle.tv_plan.specs.declared.refusal.Stop.{Stop}
use Rattle.tv_plan.proofs.ContainerReads.{StopsBy, came, finds_file}
use Rattle.tv_plan.specs.Finds.{reading}

shrink_stops : (word : ℕ) (why : ShrinkFault) → StopsBy word shrink_flaws (why ≡ fault.Fault) (shrink_stop word why)
shrink_stops word (fault.Terms has) = inl refl
shrink_stops word (fault.Combination has) = inr (inl refl)
shrink_stops word fault.Fault = (refl, refl)
shrink_stops word (fault.Bad at why) = inr (inr (inl refl))
shrink_stops word fault.Memory = tt

shrink_spares : (word : ℕ) (why : ShrinkFault) (old new : Outside) → shrinking.Leaves why old new → Spares (shrink_stop word why) old new
shrink_spares word fault.Fault old new leaves = tt
shrink_spares word (fault.Bad at why) old new leaves = leaves
shrink_spares word (fault.Terms has) old new leaves = leaves
shrink_spares word (fault.Combination has) old new leaves = leaves
shrink_spares word fault.Memory old new leaves = leaves

shrink_caused : (why : ShrinkFault) (old new : Outside) → shrinking.Leaves why old new → why ≡ fault.Fault → Rose old.read_faults new.read_faults
shrink_caused fault.Fault old new rose is = rose
shrink_caused _ old new leaves is = cc

-- what is left of the system of a file that may be there
abbrev shrunk_due : ℕ → Option (List ℕ) → Look Shrunken
shrunk_due word file = record { at = word; gives = held_at word system_in file } >>= λ system. settled (shrunk_of system)

due_at : (word : ℕ) (found : Result System Bad) → word ≤ (look_on word (made_of found) (λ system. settled (shrunk_of system))).at
due_at word (Ok system) = omega arith
due_at word (Err bad) = omega arith

shrink_found : (word : ℕ) (result : Result Shrunken ShrinkFault) (file : List ℕ)
    → MatchResult result (λ shrunken. shrinking.Shrinks shrunken file) (λ fault. FaultMeans fault file) →
    IsFound (λ (s : Shrunken). s) (shrunk_due word (Some file)) (came (shrink_stop word) result)
shrink_found word (Ok shrunken) file is = rw (is.is, le-ltb most (all_terms is.system) is.few, is.narrow, is.same) refl
shrink_found word (Err (fault.Bad at why)) file is = rw is refl
shrink_found word (Err (fault.Terms has)) file is = rw (is.is, ← is.terms, lt-ltb most has is.many) refl
shrink_found word (Err (fault.Combination has)) file is = rw (is.is, le-ltb most (all_terms is.system) is.few, is.first) refl
shrink_found word (Err fault.Fault) file is = due_at word (system_in file)
shrink_found word (Err fault.Memory) file is = tt

-- what shrinking a system found
pub finds_shrunk : (place : Named) (old new : Outside) (result : Result Shrunken ShrinkFault) (found : Result Shrunken Stop)
    → found ≡ came (shrink_stop place.word) result → Known old place.name
    (λ file. MatchResult result (λ shrunken. shrinking.Shrinks shrunken file) (λ fault. FaultMeans fault file))
    → HaltsBy old new place.name result →
    (IsMissing old place.name → result ≡ Err fault.Fault)
    → Finds (λ (s : Shrunken). s) (reading (place.word ∷ []) shrink_flaws (shrunk_look place)) old new found
unfolding shrunk_look input
finds_shrunk place old new result found is gives halts missing =
    rw is (finds_file (λ (s : Shrunken). s) (shrink_stop place.word) fault.Fault place.word shrink_flaws place.name (shrunk_due place.word) old new
    (Halted old new place.name) result refl (omega arith) refl (shrink_stops place.word)
    (λ why halted. (halted.only, halted.there, shrink_spares place.word why old new halted.leaves, shrink_caused why old new halted.leaves))
    (λ file there. shrink_found place.word result file (gives file there)) halts missing)
