-- The state that a step of the program leaves.
use Rattle.tv_core.proofs.Common.{◌≡◌, ap, sym, ◌∙◌, ℕ}
use Rattle.tv_step.specs.Machine.{next, left_in, state_after}
use Rattle.tv_step.specs.State.{State, Next}
use Rattle.tv_step.specs.Views.{CameTo}
use Rattle.tv_step.specs.declared.end.Outcome.{Outcome}
use Rattle.tv_step.specs.declared.end.Outcome.TheVariants as outcomes

pub came_after : (w : ℕ) (due : Next) (outcome : Outcome) (st new : State) → next w st ≡ due → CameTo due outcome st new → new ≡ state_after w 1 st
came_after w due outcomes.Gone st new e came = sym (ap (left_in (λ after. after) st) (e ∙ came))
came_after w due (outcomes.Answered value) st new e came = came.1 ∙ sym (ap (left_in (λ after. after) st) (e ∙ came.0))
came_after w due (outcomes.Undefined op) st new e came = came.1 ∙ sym (ap (left_in (λ after. after) st) (e ∙ came.0))
