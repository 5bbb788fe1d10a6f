-- `check`: reading the system twice is reading it once, and what the command promises.
use Rattle.tv_core.proofs.Common.{◌≡◌, ◌<◌, ◌==◌, ℕ, Bool, true, false, if◌then◌else◌, List, [], ◌∷◌, ◌++◌, length, take, All}
use Rattle.tv_core.proofs.Common.{Result, Ok, Err, refl, sym, ap, arith, eqb-true, eq-eqb, ne_eqb}
use Rattle.std.proofs.Common.{◌↔◌, codes, max}
use Rattle.std.proofs.lemmas.List.{take_all}
use Rattle.tv_check.specs.Meaning.{VerdictMeans}
use Rattle.tv_check.specs.Verdict.{HasRoom, judge, verdict_of}
use Rattle.tv_check.specs.declared.verdict.Verdict.{Verdict}
use Rattle.tv_check.specs.declared.verdict.Verdict.TheVariants.{Yes, WireCount}
use Rattle.tv_check.proofs.Room.{has_room}
use Rattle.tv_check.proofs.Verdicts.{yes_exactly, no_exactly}
use Rattle.tv_core.specs.Constraints.{System}
use Rattle.tv_core.specs.Meanings.{system_counts}
use Rattle.tv_core.specs.declared.field.TheConstants.{P}
use Rattle.tv_core.specs.declared.lines.Counts.{Counts}
use Rattle.tv_files.specs.Outside.{Names, Outside}
use Rattle.tv_r1cs_read.specs.R1cs.{r1cs_system}
use Rattle.tv_r1cs_read.specs.Survey.{survey_of}
use Rattle.tv_wtns.specs.Wtns.{Firsts, firsts_of, assignment_of}
use Rattle.tv_wtns.proofs.ValueLaws.{assignments_below}
use Rattle.tv_plan.specs.declared.refusal.Stop.{Stop}
use Rattle.tv_plan.specs.Check.{check_of, check_ends, check_flaws, check_form, check_plan, IsJudged, HasVerdict, OnCheck}
use Rattle.tv_plan.specs.Containers.{system_bad, witness_bad, system_in, witness_in, firsts_in_witness, counts_in, verdict_in}
use Rattle.tv_plan.specs.Finds.{Finds, reading, reading_of}
use Rattle.tv_plan.specs.Flaws.{Flaw.{OfSystem}}
use Rattle.tv_plan.specs.Plan.{Named, name_at, Look, ◌>>=◌, look_on, held_at, input, settled, map_ok}
use Rattle.tv_plan.specs.Tapes.{publics_in}
use Rattle.tv_plan.proofs.ContainerReads.{part_held, read_of}
use Rattle.tv_plan.proofs.LookLaws.{finds_as}
use Rattle.tv_plan.proofs.ClaimLaws.{Form, FormOf, Promises, IsHeld, leads_to, made_is, shows_input, shows_then}

-- ---- reading the system twice, and as many values as wires, is reading each once and whole

-- what the code looks at: the system, for its faults and its wires; as many values of the witness as there are wires,
-- with the number of them all; the tape; and the system again, for the verdict, or, where there are more values than
-- wires or fewer, for its faults
unfoldable pub check_last : Named → ℕ → Firsts → List ℕ → Names → Look Verdict
check_last system wires first x files =
    if first.count == wires
    then input system (verdict_in first.values x) files
    else (input system counts_in files >>= λ counts. settled (Ok (WireCount first.count wires)))

unfoldable pub check_twice : Named → Named → Named → Names → Look Verdict
check_twice system witness tape files = do
  counts ← input system counts_in files
  first ← input witness (firsts_in_witness counts.wires) files
  x ← input tape (publics_in tape.word) files
  check_last system counts.wires first x files

-- the last of these, from what is found of the system once more
abbrev counted : ℕ → Result Counts Stop → Result Verdict Stop → ℕ → Firsts → Look Verdict
counted a counts again wires first =
    if first.count == wires then record { at = a; gives = again } else look_on a counts (λ counts. settled (Ok (WireCount first.count wires)))

-- it is that by all values: the first are all where there are as many as wires
by_count : (a : ℕ) (s : System) (z x : List ℕ) (same : Bool) → (length z == s.wires) ≡ same
    → counted a (Ok (system_counts s)) (Ok (judge s (take s.wires z) x)) s.wires (firsts_of s.wires z) ≡ record { at = a; gives = Ok (judge s z x) }
by_count a s z x true e = rw (take_all s.wires z (omega (arith, eqb-true (length z) s.wires e)), e) refl
by_count a s z x false e = let last : max a 0 ≡ a = omega arith in rw (e, last) refl

-- each look at a part of what a file holds finds that part
by_parts : (a b c : ℕ) (s : Result System Stop) (z x : Result (List ℕ) Stop) (all : Result Counts Stop) (first : ℕ → Result Firsts Stop)
    (again : List ℕ → List ℕ → Result Verdict Stop) →
    all ≡ map_ok system_counts s → ((most : ℕ) → first most ≡ map_ok (firsts_of most) z) → ((z x : List ℕ) → again z x ≡ map_ok (λ s. judge s z x) s) →
    look_on a all (λ counts. look_on b (first counts.wires) (λ first. look_on c x (λ x. counted a all (again first.values x) counts.wires first)))
    ≡ look_on a s (λ s. look_on b z (λ z. look_on c x (λ x. settled (Ok (judge s z x)))))
by_parts a b c (Ok s) (Ok z) (Ok x) all first again is firsts judged =
    let reach : max a (max b (max c a)) ≡ max a (max b (max c 0)) = omega arith in
    rw (is, firsts s.wires, judged (take s.wires z) x, ← reach)
    (ap (λ (look : Look Verdict). record { at = max a (max b (max c look.at)); gives = look.gives }) (by_count a s z x (length z == s.wires) refl))
by_parts a b c (Ok s) (Ok z) (Err why) all first again is firsts judged = rw (is, firsts s.wires) refl
by_parts a b c (Ok s) (Err why) x all first again is firsts judged = rw (is, firsts s.wires) refl
by_parts a b c (Err why) z x all first again is firsts judged = rw is refl

once : (system witness tape : Named) (files : Names) → check_twice system witness tape files ≡ check_of system witness tape files
unfolding check_twice check_last check_of survey_of verdict_of input
once system witness tape files =
    by_parts system.word witness.word tape.word (held_at system.word system_in (files system.name)) (held_at witness.word witness_in (files witness.name))
    (held_at tape.word (publics_in tape.word) (files tape.name)) _
    (λ most. held_at witness.word (firsts_in_witness most) (files witness.name)) (λ z x. held_at system.word (verdict_in z x) (files system.name))
    (part_held system.word system_bad r1cs_system system_counts (files system.name))
    (λ most. part_held witness.word witness_bad assignment_of (firsts_of most) (files witness.name))
    (λ z x. part_held system.word system_bad r1cs_system (λ s. judge s z x) (files system.name))

-- the last look: the verdict where there are as many values as wires, and else the wires
pub finds_verdict : (system : Named) (wires : ℕ) (first : Firsts) (x : List ℕ) (old new : Outside) (found : Result Verdict Stop) → first.count ≡ wires →
    Finds (λ v. v) (reading_of system (OfSystem ∷ []) (verdict_in first.values x)) old new found
    → Finds (λ v. v) (reading (system.word ∷ []) (OfSystem ∷ []) (check_last system wires first x)) old new found
unfolding check_last
finds_verdict system wires first x old new found same finds = finds_as (λ files. rw (eq-eqb first.count wires same) refl) finds

pub finds_wires : (system : Named) (wires : ℕ) (first : Firsts) (x : List ℕ) (old new : Outside) (found : Result Verdict Stop) → ¬ (first.count ≡ wires) →
    Finds (λ v. v) (reading (system.word ∷ []) (OfSystem ∷ []) (λ files. input system counts_in files >>= λ counts. settled (Ok (WireCount first.count wires))))
    old new found
    → Finds (λ v. v) (reading (system.word ∷ []) (OfSystem ∷ []) (check_last system wires first x)) old new found
unfolding check_last
finds_wires system wires first x old new found other finds = finds_as (λ files. rw (ne_eqb first.count wires other) refl) finds

-- what was found is what the plan looks for
pub finds_once : (system witness tape : Named) (old new : Outside) (found : Result Verdict Stop)
    → Finds (λ v. v) (reading (system.word ∷ witness.word ∷ tape.word ∷ system.word ∷ []) (check_flaws tape.word ++ OfSystem ∷ [])
    (check_twice system witness tape)) old new found →
    Finds (λ v. v) (reading (system.word ∷ witness.word ∷ tape.word ∷ []) (check_flaws tape.word) (check_of system witness tape)) old new found
finds_once system witness tape old new found finds =
    let same = finds_as (λ files. sym (once system witness tape files)) finds in
    record {
      known = same.known;
      absent = same.absent;
      only = same.only;
      leaves = same.leaves;
      caused = λ word e. let cause = same.caused word e in
          (grind (arith, cause.0), cause.1);
      flaws = λ why e. let flaw = same.flaws why e in grind (arith, flaw);
    }

-- ---- verdicts

-- each verdict comes exactly where what it says is so
judged_exactly : (s : System) (z x : List ℕ) (verdict : Verdict) → HasRoom s → All (λ v. v < P) z → (judge s z x ≡ verdict) ↔ VerdictMeans verdict s z x
judged_exactly s z x Yes room below = yes_exactly s z x room below
judged_exactly s z x other room below = no_exactly s z x other (λ e. cc)

-- ---- the claim

verdict_shown : (s : System) (z x : List ℕ) → HasRoom s → All (λ v. v < P) z → IsHeld (Ok (judge s z x)) (IsJudged s z x)
verdict_shown s z x room below held e = record {
  verdict = judge s z x;
  is = sym (made_is (Ok (judge s z x)) held e);
  means = λ other. judged_exactly s z x other room below;
}

all_shown : (system witness tape : List ℕ) (files : Names)
    → IsHeld (check_of (name_at 1 system) (name_at 2 witness) (name_at 3 tape) files).gives (HasVerdict files system witness tape)
unfolding check_of
all_shown system witness tape files =
    shows_then (input (name_at 1 system) system_in files)
    (λ s. input (name_at 2 witness) witness_in files >>= λ z. input (name_at 3 tape) (publics_in 3) files >>= λ x. settled (Ok (judge s z x))) _ _
    (shows_input (name_at 1 system) system_in files) (λ s in_system.
    shows_then (input (name_at 2 witness) witness_in files) (λ z. input (name_at 3 tape) (publics_in 3) files >>= λ x. settled (Ok (judge s z x))) _ _
    (shows_input (name_at 2 witness) witness_in files) (λ z in_witness.
    shows_then (input (name_at 3 tape) (publics_in 3) files) (λ x. settled (Ok (judge s z x))) _ _ (shows_input (name_at 3 tape) (publics_in 3) files) (λ x _.
    verdict_shown s z x (rw (read_of system_bad (r1cs_system in_system.bytes) s in_system.reads) at (has_room in_system.bytes))
    (assignments_below in_witness.bytes z (read_of witness_bad (assignment_of in_witness.bytes) z in_witness.reads)))))

pub checks : (form : Form) → FormOf form (codes "check") check_form → Promises form OnCheck
checks form named words count call answers system witness tape are files known =
    leads_to (check_plan (name_at 1 system) (name_at 2 witness) (name_at 3 tape)) check_ends (check_of (name_at 1 system) (name_at 2 witness) (name_at 3 tape))
    (HasVerdict files system witness tape) (form words) count files call
    (rw (are, named (system ∷ witness ∷ tape ∷ [])) refl) (tt, (tt, (tt, tt))) tt refl known answers (all_shown system witness tape files)
