-- `run`: what it promises.
use Rattle.tv_core.proofs.Common.{◌≡◌, ℕ, [], ◌∷◌, refl, arith}
use Rattle.std.proofs.Common.{codes}
use Rattle.tv_step.specs.Machine.{start, Accepts}
use Rattle.tv_step.specs.declared.end.End.TheVariants.{Answer}
use Rattle.tv_step.proofs.EndLaws.{answer_is_within}
use Rattle.tv_plan.proofs.Common.{Inputs, name_at, bits}
use Rattle.tv_plan.specs.Inputs.{inputs_of, run_end}
use Rattle.tv_plan.specs.Run.{run_form, run_plan, run_ends, HasRun, OnRun}
use Rattle.tv_plan.proofs.ClaimLaws.{Form, FormOf, Promises, leads_to, if_ok, shows_more}
use Rattle.tv_plan.proofs.InputLaws.{inputs_shown}

-- an answer is what the machine accepts by
pub accepted : (steps : ℕ) (inputs : Inputs) (value step : ℕ) → run_end steps inputs ≡ Answer value step
    → Accepts (bits inputs.program.width) inputs.program.words inputs.tape inputs.aux steps value
accepted steps inputs value step is = (
  step,
  (answer_is_within (bits inputs.program.width) steps (start (bits inputs.program.width) inputs.program.words inputs.tape inputs.aux) value step is).1,
  is,
)

pub runs : (form : Form) → FormOf form (codes "run") run_form → Promises form OnRun
runs form named words count call answers text tape aux number steps are is some most files known =
    leads_to (run_plan (name_at 1 text) (name_at 2 tape) (name_at 3 aux) steps) (run_ends steps) (inputs_of (name_at 1 text) (name_at 2 tape) (name_at 3 aux))
    (HasRun files text tape aux steps) (form words) count files call
    (rw (are, named (text ∷ tape ∷ aux ∷ number ∷ []), is) refl) (tt, (tt, (tt, tt))) (omega arith, most, tt) refl known answers
    (shows_more _ _ _ (inputs_shown text tape aux files) (λ held has. record { inputs = has; accepts = if_ok held _ (λ inputs _. accepted steps inputs) }))
