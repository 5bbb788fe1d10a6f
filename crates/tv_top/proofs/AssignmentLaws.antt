-- What is found of an assignment that was read: a run, or why it has none.
use Rattle.tv_core.proofs.Common.{◌≡◌, ◌<◌, ◌≤◌, ◌==◌, ℕ, Bool, true, false, List, length, Result, Ok, Err, inl, inr, refl, sym, ap, arith, eqb-true, eq-eqb}
use Rattle.tv_core.proofs.Common.{ne_eqb}
use Rattle.std.proofs.Common.{max}
use Rattle.std.proofs.lemmas.Bool.{eqb-false}
use Rattle.std.proofs.lemmas.List.{take_all}
use Rattle.tv_stages.specs.declared.nets.Net.{Net}
use Rattle.tv_core.specs.declared.limits.TheConstants.{TAPE_WORDS, STEPS}
use Rattle.tv_extract.proofs.ExtractLaws.{extracted_is_run, run_miscounted, satisfying_have_runs}
use Rattle.tv_extract.specs.Extraction.{run_in, IsFaultOf}
use Rattle.tv_extract.specs.declared.run.ExtractFault.{ExtractFault}
use Rattle.tv_extract.specs.declared.run.ExtractFault.TheVariants as faults
use Rattle.tv_step.specs.declared.not_run.NotRun.{NotRun}
use Rattle.tv_step.specs.declared.not_run.NotRun.TheVariants.{WireCount}
use Rattle.tv_extract.specs.declared.run.Run.{Run}
use Rattle.tv_wtns.specs.Wtns.{Firsts, firsts_of, assignment_of}
use Rattle.tv_plan.proofs.Common.{Names, Outside, Holds, Then, Completes, Named, name_at, Look, Outcome, ◌>>=◌, outcome_by, held_at}
use Rattle.tv_plan.specs.declared.refusal.Bad.{Bad}
use Rattle.tv_plan.specs.declared.refusal.Finish.{Finish}
use Rattle.tv_plan.specs.declared.refusal.Stop.{Stop}
use Rattle.tv_plan.specs.declared.refusal.Stop.TheVariants.{Memory}
use Rattle.tv_plan.proofs.Common.{input, look_on, map_ok, settled, bits, program_in}
use Rattle.tv_plan.specs.declared.programs.Program.{Program}
use Rattle.tv_layout.specs.Places.{WithinLimits}
use Rattle.tv_plan.specs.declared.refusal.Finish.TheVariants.{NotARun}
use Rattle.tv_top.specs.Build.{program_system, program_runs}
use Rattle.tv_plan.specs.Containers.{firsts_in_witness, witness_bad, witness_in}
use Rattle.tv_top.specs.Assignment.{Assigned, Kept, assigned_by, assigned_of, assigned_run, kept_of, kept_run, not_run, run_ends, HasAssigned}
use Rattle.tv_plan.proofs.AnswerLaws.{completes_nothing}
use Rattle.tv_plan.proofs.ContainerReads.{part_held}
use Rattle.tv_plan.proofs.ClaimLaws.{IsHeld, if_ok, shows_input, shows_then, shows_made, shows_more}
use Rattle.tv_plan.proofs.ProgramLaws.{has_image}
use Rattle.tv_top.proofs.SystemLimits.{within_limits}

-- it ends as a run does, or says that there is none
pub ends_in : (kind : Finish → Bool) (run : Run → Outcome) → ((one : Run) → kind (run one).finish ≡ true) → ((why : NotRun) → kind (NotARun why) ≡ true)
    → (found : Result Run NotRun) → kind (run_ends run found).finish ≡ true
ends_in kind run answers none (Ok one) = answers one
ends_in kind run answers none (Err why) = none why

-- there is no run, or memory was wanting
pub completes_none : (places : List Named) (run : Run → Outcome) (found : Result Run NotRun) (fault : ExtractFault) (outside : Outside) → IsFaultOf found fault
    → Completes places (run_ends run found) outside outside (not_run fault)
completes_none places run found (faults.WireCount has wants) outside due = rw due (completes_nothing places _ (Ok _) outside refl)
completes_none places run found (faults.WideWire at) outside due = rw due (completes_nothing places _ (Ok _) outside refl)
completes_none places run found (faults.NotARun end) outside due = rw due (completes_nothing places _ (Ok _) outside refl)
completes_none places run found faults.Memory outside any = completes_nothing places (run_ends run found) (Err Memory) outside refl

-- ---- as many values as wires

-- the system's wires
abbrev wires_of : Net → ℕ → ℕ → Program → ℕ
wires_of net n t program = (program_system net n t program).wires

pub kept_counted : (net : Net) (n t : ℕ) (kept : Kept) → kept.first.count ≡ wires_of net n t kept.program
    → kept_run net n t kept ≡ run_in net (program_runs n t kept.program) kept.first.values
unfolding kept_run assigned_run
kept_counted net n t kept many = rw (eq-eqb kept.first.count (wires_of net n t kept.program) many) refl

pub kept_miscounted : (net : Net) (n t : ℕ) (kept : Kept) → ¬ (kept.first.count ≡ wires_of net n t kept.program)
    → kept_run net n t kept ≡ Err (WireCount kept.first.count (wires_of net n t kept.program))
unfolding kept_run
kept_miscounted net n t kept other = rw (ne_eqb kept.first.count (wires_of net n t kept.program) other) refl

pub ruleset kept = (kept_counted, kept_miscounted)

-- a run of kept values is one of the assignment that they are
pub kept_ran : (net : Net) (n t : ℕ) (kept : Kept) (run : Run) → kept_run net n t kept ≡ Ok run → assigned_run net n t (assigned_by kept) ≡ Ok run
unfolding kept_run
kept_ran net n t kept run is = by_count (kept.first.count == wires_of net n t kept.program) refl
  where
    by_count : (same : Bool) → (kept.first.count == wires_of net n t kept.program) ≡ same → assigned_run net n t (assigned_by kept) ≡ Ok run
    by_count true e = rw e at is
    by_count false e = let never : Err (WireCount kept.first.count (wires_of net n t kept.program)) ≡ Ok run = rw e at is in cc

-- how a command ends by what it writes of an assignment and its run, by all values and by those that are kept
abbrev pub ends_by_all : (Assigned → Run → Outcome) → Net → ℕ → ℕ → Assigned → Outcome
ends_by_all f net n t assigned = run_ends (f assigned) (assigned_run net n t assigned)

abbrev pub ends_by_kept : (Assigned → Run → Outcome) → Net → ℕ → ℕ → Kept → Outcome
ends_by_kept f net n t kept = run_ends (f (assigned_by kept)) (kept_run net n t kept)

-- both are the same: the first values are all where there are as many as wires, and otherwise there is no run
same_ends : (f : Assigned → Run → Outcome) (net : Net) (n t : ℕ) (program : Program) (z : List ℕ) →
    ends_by_kept f net n t (record { program = program; first = firsts_of (wires_of net n t program) z })
    ≡ ends_by_all f net n t (record { program = program; z = z })
unfolding kept_run assigned_run program_system
same_ends f net n t program z = by_count (length z == wires_of net n t program) refl
  where
    by_count : (same : Bool) → (length z == wires_of net n t program) ≡ same
        → ends_by_kept f net n t (record { program = program; first = firsts_of (wires_of net n t program) z })
        ≡ ends_by_all f net n t (record { program = program; z = z })
    by_count true e = rw (take_all (wires_of net n t program) z (omega (arith, eqb-true (length z) (wires_of net n t program) e)), e) refl
    by_count false e = rw (e, run_miscounted (bits program.width) net program.words n t z (eqb-false (length z) (wires_of net n t program) e)) refl

by_parts : (f : Assigned → Run → Outcome) (net : Net) (n t a b : ℕ) (p : Result Program Stop) (z : Result (List ℕ) Stop) (first : ℕ → Result Firsts Stop)
    → ((most : ℕ) → first most ≡ map_ok (firsts_of most) z) →
    outcome_by (ends_by_all f net n t) (look_on a p (λ program. look_on b z (λ z. settled (Ok (record { program = program; z = z })))))
    ≡ outcome_by (ends_by_kept f net n t) (look_on a p
    (λ program. look_on b (first (wires_of net n t program)) (λ first. settled (Ok (record { program = program; first = first })))))
by_parts f net n t a b (Ok p) (Ok z) first firsts = rw (firsts (wires_of net n t p))
    (ap (λ (o : Outcome). record { at = max a (max b 0); gives = Ok o }) (sym (same_ends f net n t p z)))
by_parts f net n t a b (Ok p) (Err why) first firsts = rw (firsts (wires_of net n t p)) refl
by_parts f net n t a b (Err why) z first firsts = refl

kept_once : (f : Assigned → Run → Outcome) (net : Net) (n t : ℕ) (text witness : Named) (files : Names) →
    outcome_by (ends_by_all f net n t) (assigned_of text witness files) ≡ outcome_by (ends_by_kept f net n t) (kept_of net n t text witness files)
unfolding assigned_of kept_of input
kept_once f net n t text witness files =
    by_parts f net n t text.word witness.word (held_at text.word program_in (files text.name)) (held_at witness.word witness_in (files witness.name))
    (λ most. held_at witness.word (firsts_in_witness most) (files witness.name))
    (λ most. part_held witness.word witness_bad assignment_of (firsts_of most) (files witness.name))

-- so a plan by all values is one by those that are kept
pub comes_kept : (f : Assigned → Run → Outcome) (net : Net) (n t : ℕ) (text witness : Named) →
    ◌≡◌ {A = Names → Look Outcome} (λ files. outcome_by (ends_by_all f net n t) (assigned_of text witness files))
    (λ files. outcome_by (ends_by_kept f net n t) (kept_of net n t text witness files))
comes_kept f net n t text witness = λ i files. kept_once f net n t text witness files i

-- ---- what the files hold

-- what the two files hold
abbrev HasBoth : Names → List ℕ → List ℕ → Result Assigned Bad → Type 0
HasBoth files text witness = Then (Holds program_in (files text))
    (λ program. Then (Holds witness_in (files witness)) (λ z held. held ≡ Ok (record { program = program; z = z })))

-- the program's system has a size
pub assigned_fits : (n t : ℕ) (files : Names) (text witness : List ℕ) (assigned : Assigned) → n ≤ TAPE_WORDS → 0 < t → t ≤ STEPS
    → HasBoth files text witness (Ok assigned) →
    WithinLimits (program_runs n t assigned.program)
assigned_fits n t files text witness assigned few some most (inl (program, holds, inl (z, _, e))) =
    let same : record { program = program; z = z } ≡ assigned = cc in
    within_limits assigned.program n t (has_image (files text) assigned.program (rw (ap (λ (assigned : Assigned). assigned.program) same) at holds)) few
    (omega (arith, some)) most
assigned_fits n t files text witness assigned few some most (inl (program, holds, inr (bad, refused, e))) = cc
assigned_fits n t files text witness assigned few some most (inr (bad, refused, e)) = cc

pub assigned_shown : (net : Net) (files : Names) (text : List ℕ) (n t : ℕ) (witness : List ℕ) → n ≤ TAPE_WORDS → 0 < t → t ≤ STEPS
    → IsHeld (assigned_of (name_at 1 text) (name_at 4 witness) files).gives (HasAssigned net n t (files text) (files witness))
unfolding assigned_of assigned_run program_system
assigned_shown net files text n t witness few some most =
    shows_more _ _ _
    (shows_then (input (name_at 1 text) program_in files)
    (λ program. input (name_at 4 witness) witness_in files >>= λ z. settled (Ok (record { program = program; z = z }))) _ _
    (shows_input (name_at 1 text) program_in files) (λ program _.
    shows_then (input (name_at 4 witness) witness_in files) (λ z. settled (Ok (record { program = program; z = z }))) _ _
    (shows_input (name_at 4 witness) witness_in files) (λ z _. shows_made (Ok (record { program = program; z = z })))))
    (λ held has. record {
      holds = has;
      run = if_ok held _ (λ assigned _ run is. extracted_is_run net (program_runs n t assigned.program) assigned.z run is);
      satisfying = if_ok held _ (λ assigned is sat. satisfying_have_runs net (program_runs n t assigned.program) assigned.z
          (assigned_fits n t files text witness assigned few some most (rw is at has)) sat);
    })
