-- What a run that answers has done step by step.
use Rattle.std.specs.Prelude.{◌≡◌, ℕ, ◌+◌, ◌-◌, ◌<◌, ◌≤◌}
use Rattle.tv_step.specs.Machine.{next, end_of, state_after}
use Rattle.tv_step.specs.State.{State, Next}
use Rattle.tv_step.specs.declared.end.End.TheVariants as ends

-- the step from a state is of an opcode that is used
abbrev pub IsDefined : ℕ → State → Type 0
IsDefined w st = (op : ℕ) → next w st ≡ Next.Undefined op → ⊥

-- t steps from a state on, each defined, of which the last answers v
pub record Answering (w : ℕ) (st : State) (t v : ℕ) : Type 0 where
  pub some : 1 ≤ t
  pub defined : (i : ℕ) → i < t → IsDefined w (state_after w i st)
  pub last : next w (state_after w (t - 1) st) ≡ Next.Answered v

-- an answer comes at a step from the first to the last
abbrev pub AnswerIsWithin : Type 0
AnswerIsWithin = (w t : ℕ) (st : State) (v step : ℕ) → end_of w t st ≡ ends.Answer v step → (1 ≤ step) × (step ≤ t)

-- a run that answers v goes on to its last step, which answers v again
abbrev pub EndAnswers : Type 0
EndAnswers = (w t : ℕ) (st : State) (v step : ℕ) → end_of w t st ≡ ends.Answer v step → Answering w st t v

-- where the state after t steps answers v, the run of one more step does
abbrev pub LastAnswers : Type 0
LastAnswers = (w t : ℕ) (st : State) (v : ℕ) → next w (state_after w t st) ≡ Next.Answered v
    → (step : ℕ) × (step ≤ t + 1) × (end_of w (t + 1) st ≡ ends.Answer v step)

-- a state after some steps, by its last step, by its first, and where the first answers
abbrev pub StepsAtTheEnd : Type 0
StepsAtTheEnd = (w t : ℕ) (st : State) → state_after w (t + 1) st ≡ state_after w 1 (state_after w t st)

abbrev pub StepsAtTheFront : Type 0
StepsAtTheFront = (w t : ℕ) (st after : State) → next w st ≡ Next.Gone after → state_after w (t + 1) st ≡ state_after w t after

abbrev pub AnswerStays : Type 0
AnswerStays = (w t : ℕ) (st : State) (v : ℕ) → next w st ≡ Next.Answered v → state_after w t st ≡ st
