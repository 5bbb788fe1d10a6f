-- `check SYSTEM WITNESS PUBLIC`: the verdict on a system, an assignment and public numbers.
use Rattle.std.specs.Prelude.{◌≡◌, ◌↔◌, ℕ, codes, List, [], ◌∷◌, Result, Ok, Option, None, Some}
use Rattle.tv_check.specs.Meaning.{VerdictMeans}
use Rattle.tv_check.specs.Verdict.{judge}
use Rattle.tv_check.specs.declared.verdict.Verdict.{Verdict}
use Rattle.tv_core.specs.Constraints.{System}
use Rattle.tv_files.specs.Outside.{Names, WhereKnown}
use Rattle.tv_plan.specs.declared.check.CheckArgs.{CheckArgs}
use Rattle.tv_plan.specs.declared.refusal.Bad.{Bad}
use Rattle.tv_plan.specs.declared.refusal.Finish.TheVariants as finishes
use Rattle.tv_plan.specs.declared.refusal.What.TheVariants.{TapeWords}
use Rattle.tv_plan.specs.Claims.{Call, Holds, Then, AnswersOrStops}
use Rattle.tv_plan.specs.Containers.{system_in, witness_in}
use Rattle.tv_plan.specs.Flaws.{Flaw, Flaw.{OfSystem, OfWitness}}
use Rattle.tv_plan.specs.Kinds.{is_verdict}
use Rattle.tv_plan.specs.Plan.{Named, Plan, Outcome, Look, named, settled, ◌>>=◌, input, outcome_by, name_at}
use Rattle.tv_plan.specs.Tapes.{publics_in, tape_flaws}

-- the system, the witness and the tape, each read to its end and judged before the next, and the verdict on them
unfoldable pub check_of : Named → Named → Named → Names → Look Verdict
check_of system witness tape files = do
  s ← input system system_in files
  z ← input witness witness_in files
  x ← input tape (publics_in tape.word) files
  settled (Ok (judge s z x))

abbrev pub check_ends : Verdict → Outcome
check_ends verdict = record { files = []; finish = finishes.Verdict verdict }

-- what the three files may be refused for, the tape being at this word
abbrev pub check_flaws : ℕ → List Flaw
check_flaws tape = OfSystem ∷ OfWitness ∷ tape_flaws tape TapeWords

abbrev pub check_plan : Named → Named → Named → Plan
check_plan system witness tape = record {
  reads = system ∷ witness ∷ tape ∷ [];
  writes = [];
  amounts = [];
  flaws = check_flaws tape.word;
  ends_by = is_verdict;
  leads_to = λ files. outcome_by check_ends (check_of system witness tape files);
}

-- the plan that the command's words ask for
abbrev pub check_asks : CheckArgs → Plan
check_asks args = check_plan (named args.system) (named args.witness) (named args.tape)

-- the plan of the words after the command's name, where they have its form
abbrev pub check_form : List (List ℕ) → Option Plan
check_form (system ∷ witness ∷ tape ∷ []) = Some (check_plan (name_at 1 system) (name_at 2 witness) (name_at 3 tape))
check_form _ = None

-- the verdict on these is this, and what it says of them, and no other verdict, is so: yes, that the assignment
-- satisfies the system and extends the public numbers
pub record IsJudged (s : System) (z x : List ℕ) (held : Result Verdict Bad) : Type 0 where
  pub verdict : Verdict
  pub is : held ≡ Ok verdict
  pub means : (other : Verdict) → (verdict ≡ other) ↔ VerdictMeans other s z x

-- the three files hold a system, an assignment and public numbers on which this is the verdict, or the
-- first of them that is refused is refused for this
abbrev pub HasVerdict : Names → List ℕ → List ℕ → List ℕ → Result Verdict Bad → Type 0
HasVerdict files system witness tape =
    Then (Holds system_in (files system)) (λ s.
    Then (Holds witness_in (files witness)) (λ z.
    Then (Holds (publics_in 3) (files tape)) (λ x.
    IsJudged s z x)))

-- What `check` promises over files whose contents are known.
abbrev pub Checks : Names → List ℕ → List ℕ → List ℕ → Call → Type 0
Checks files system witness tape = AnswersOrStops [] check_ends (HasVerdict files system witness tape) files

-- What a call promises that has these words, where they are those of `check`.
abbrev pub OnCheck : List (List ℕ) → Call → Type 0
OnCheck words call = (system witness tape : List ℕ) → words ≡ codes "check" ∷ system ∷ witness ∷ tape ∷ []
    → WhereKnown call.before (λ files. Checks files system witness tape call)
