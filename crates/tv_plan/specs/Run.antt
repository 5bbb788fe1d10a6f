-- `run TEXT TAPE AUX T`: the end of the machine's run on a program and two tapes.
use Rattle.std.specs.Prelude.{◌≡◌, ◌<◌, ◌≤◌, ◌^◌, ℕ, codes, List, [], ◌∷◌, Some, Result, IfOk, Option, None, option_map}
use Rattle.tv_files.specs.Outside.{Names, WhereKnown}
use Rattle.tv_step.specs.Machine.{Accepts}
use Rattle.tv_step.specs.declared.end.End.TheVariants.{Answer}
use Rattle.tv_core.specs.declared.limits.TheConstants.{STEPS}
use Rattle.tv_word.specs.Numeral.{numeral}
use Rattle.tv_plan.specs.declared.inputs.Inputs.{Inputs}
use Rattle.tv_plan.specs.declared.refusal.Bad.{Bad}
use Rattle.tv_plan.specs.declared.refusal.Finish.TheVariants.{Run}
use Rattle.tv_plan.specs.declared.refusal.What.TheVariants.{Steps}
use Rattle.tv_plan.specs.declared.run.RunArgs.{RunArgs}
use Rattle.tv_plan.specs.Claims.{Call, AnswersOrStops}
use Rattle.tv_plan.specs.Kinds.{is_run}
use Rattle.tv_plan.specs.Inputs.{inputs_of, input_flaws, run_end, HasInputs}
use Rattle.tv_plan.specs.Plan.{Named, Plan, Outcome, named, outcome_by, name_at}
use Rattle.tv_plan.specs.Programs.{bits}

abbrev pub run_ends : ℕ → Inputs → Outcome
run_ends steps inputs = record { files = []; finish = Run (run_end steps inputs) }

abbrev pub run_plan : Named → Named → Named → ℕ → Plan
run_plan text tape aux steps = record {
  reads = text ∷ tape ∷ aux ∷ [];
  writes = [];
  amounts = record { what = Steps; has = steps; least = 1; most = STEPS } ∷ [];
  flaws = input_flaws tape.word aux.word;
  ends_by = is_run;
  leads_to = λ files. outcome_by (run_ends steps) (inputs_of text tape aux files);
}

-- the plan that the command's words ask for
abbrev pub run_asks : RunArgs → Plan
run_asks args = run_plan (named args.text) (named args.tape) (named args.aux) args.t

-- the plan of the words after the command's name, where they have its form
abbrev pub run_form : List (List ℕ) → Option Plan
run_form (text ∷ tape ∷ aux ∷ steps ∷ []) = option_map (run_plan (name_at 1 text) (name_at 2 tape) (name_at 3 aux)) (numeral 10 (2 ^ 64) steps)
run_form _ = None

-- the three files hold a program and two tapes, and where the run on them ends with an answer, the machine accepts
-- by it; or the first of them that is refused is refused for this
pub record HasRun (files : Names) (text tape aux : List ℕ) (steps : ℕ) (held : Result Inputs Bad) : Type 0 where
  pub inputs : HasInputs files text tape aux held
  pub accepts : IfOk held (λ inputs. (value step : ℕ) → run_end steps inputs ≡ Answer value step
      → Accepts (bits inputs.program.width) inputs.program.words inputs.tape inputs.aux steps value)

-- What `run` promises over files whose contents are known, T being within its limit.
abbrev pub Runs : Names → List ℕ → List ℕ → List ℕ → ℕ → Call → Type 0
Runs files text tape aux steps = AnswersOrStops [] (run_ends steps) (HasRun files text tape aux steps) files

-- What a call promises that has these words, where they are those of `run`.
abbrev pub OnRun : List (List ℕ) → Call → Type 0
OnRun words call = (text tape aux number : List ℕ) (steps : ℕ)
    → words ≡ codes "run" ∷ text ∷ tape ∷ aux ∷ number ∷ []
    → numeral 10 (2 ^ 64) number ≡ Some steps → 0 < steps → steps ≤ STEPS
    → WhereKnown call.before (λ files. Runs files text tape aux steps call)
