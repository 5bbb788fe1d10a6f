-- `trial SEED K`: the system of a program drawn from a number, tested on the values of its run.
use Rattle.std.specs.Prelude.{◌≡◌, ◌<◌, ◌≤◌, ◌^◌, ℕ, ◌+◌, ◌%◌, ◌⊎◌, codes, List, [], ◌∷◌, ◌++◌, length, Some, Ok, sum_by, count_by, Option, None}
use Rattle.tv_stages.specs.declared.nets.Net.TheVariants.{Benes}
use Rattle.tv_block.specs.Block.{block_of}
use Rattle.tv_core.specs.Constraints.{System}
use Rattle.tv_core.specs.Meanings.{product_in, holds}
use Rattle.tv_core.specs.declared.field.TheConstants.{P}
use Rattle.tv_core.specs.declared.limits.TheConstants.{DRAWS}
use Rattle.tv_draw.specs.Program.{image_drawn, tape_drawn, aux_drawn}
use Rattle.tv_files.specs.Outside.{Names, WhereKnown}
use Rattle.tv_layout.specs.Places.{runs_like}
use Rattle.tv_layout.specs.RunInputs.{RunInput, run_on}
use Rattle.tv_layout.specs.Systems.{system_of, run_values}
use Rattle.tv_layout.specs.Values.{IsFill}
use Rattle.tv_step.specs.Machine.{start, end_of}
use Rattle.tv_step.specs.declared.end.End.TheVariants.{Answer}
use Rattle.tv_word.specs.Counts.{Rose}
use Rattle.tv_word.specs.Numeral.{numeral}
use Rattle.tv_plan.specs.declared.refusal.Finish.TheVariants as finishes
use Rattle.tv_plan.specs.declared.refusal.What.TheVariants.{Draws}
use Rattle.tv_plan.specs.declared.refusal.Trial.{Trial}
use Rattle.tv_plan.specs.declared.status.Status.TheVariants.{Done, FileFault, Memory}
use Rattle.tv_top.specs.declared.trial.TrialArgs.{TrialArgs}
use Rattle.tv_plan.specs.Claims.{Call}
use Rattle.tv_plan.specs.Codes.{trial_text}
use Rattle.tv_plan.specs.Ends.{Added}
use Rattle.tv_plan.specs.Kinds.{is_trial}
use Rattle.tv_plan.specs.Plan.{Plan, Outcome, Look, outcome_by, settled, with_two}

-- the system of k drawn instructions and `answer 0` after them, for as many steps, their run, and the values for it
abbrev pub drawn_system : ℕ → ℕ → System
drawn_system seed k = system_of Benes (runs_like 32 (image_drawn seed k) (tape_drawn seed k) (k + 1))

abbrev pub drawn_run : ℕ → ℕ → RunInput
drawn_run seed k = run_on 32 (image_drawn seed k) (tape_drawn seed k) (aux_drawn seed k) (k + 1)

abbrev pub drawn_values : ℕ → ℕ → List ℕ
drawn_values seed k = run_values Benes (drawn_run seed k) 0

-- A system of t steps tested on values: its counts, the sum over its constraints of the products of the values of their
-- first two combinations, modulo P, and how many of them hold.
abbrev pub tested : ℕ → System → List ℕ → Trial
tested t system z = record {
  steps = t;
  wires = system.wires;
  constraints = length system.constraints;
  sum = sum_by (product_in z) system.constraints % P;
  satisfied = count_by (holds z) system.constraints;
}

unfoldable pub trial_of : ℕ → ℕ → Trial
trial_of seed k = tested (k + 1) (drawn_system seed k) (drawn_values seed k)

abbrev pub trial_ends : ℕ → ℕ → Outcome
trial_ends seed k = record { files = []; finish = finishes.Trial (trial_of seed k) }

-- no file is looked at
abbrev pub no_look : Names → Look (Unit {0})
no_look files = settled (Ok tt)

abbrev pub trial_plan : ℕ → ℕ → Plan
trial_plan seed k = record {
  reads = [];
  writes = [];
  amounts = record { what = Draws; has = k; least = 1; most = DRAWS } ∷ [];
  flaws = [];
  ends_by = is_trial;
  leads_to = λ files. outcome_by (λ _. trial_ends seed k) (no_look files);
}

-- the plan that the command's words ask for
abbrev pub trial_asks : TrialArgs → Plan
trial_asks args = trial_plan args.seed args.k

-- the plan of the words after the command's name, where they have its form
abbrev pub trial_form : List (List ℕ) → Option Plan
trial_form (seed ∷ k ∷ []) = with_two trial_plan (numeral 10 (2 ^ 64) seed) (numeral 10 (2 ^ 64) k)
trial_form _ = None

-- The drawn program answers 0 at step k + 1, and no earlier, the values satisfy its system and extend 0 and the tape, and
-- so all constraints hold.
pub record IsTrial (seed k : ℕ) : Type 0 where
  pub answers : end_of 32 (k + 1) (start 32 (image_drawn seed k) (tape_drawn seed k) (aux_drawn seed k)) ≡ Answer 0 (k + 1)
  pub fills : IsFill Benes (block_of 32) (drawn_run seed k) 0 (drawn_values seed k)
  pub satisfied : (trial_of seed k).satisfied ≡ (trial_of seed k).constraints

-- how a call of this many words ended: it printed the result of the trial, or printing failed, or memory ran out
abbrev pub Tries : ℕ → ℕ → ℕ → Call → Type 0
Tries words seed k call =
    ((call.status ≡ Done) × Added call.before call.after (trial_text (trial_of seed k) ++ 10 ∷ []))
    ⊎ ((call.status ≡ FileFault words) × Rose call.before.say_faults call.after.say_faults) ⊎ (call.status ≡ Memory)

-- What `trial` promises over files whose contents are known, K being within its limits: it is done and has printed the
-- result of the trial, unless printing failed or memory ran out, and no file changed.
pub record Trials (words seed k : ℕ) (call : Call) : Type 0 where
  pub ended : Tries words seed k call
  pub contents : call.after.contents ≡ call.before.contents
  pub trial : IsTrial seed k

-- What a call promises that has these words, this many of them, where they are those of `trial`.
abbrev pub OnTrial : List (List ℕ) → ℕ → Call → Type 0
OnTrial words count call = (first second : List ℕ) (seed k : ℕ)
    → words ≡ codes "trial" ∷ first ∷ second ∷ []
    → numeral 10 (2 ^ 64) first ≡ Some seed → numeral 10 (2 ^ 64) second ≡ Some k → 0 < k → k ≤ DRAWS
    → WhereKnown call.before (λ _. Trials count seed k call)
