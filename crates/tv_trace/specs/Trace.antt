-- The text of a run.
use Rattle.std.specs.Prelude.{ℕ, zero, suc, ◌+◌, ◌-◌, Bool, true, false, nat_le, nat_lt, ◌&&◌, ◌||◌, if◌then◌else◌, List, [], ◌++◌}
use Rattle.tv_step.specs.Machine.{next, state_after}
use Rattle.tv_step.specs.State.{State, Next}
use Rattle.tv_step.specs.declared.end.Outcome.{Outcome}
use Rattle.tv_step.specs.declared.end.Outcome.TheVariants as outcomes
use Rattle.tv_trace.specs.Before.{before_of, left_of}
use Rattle.tv_trace.specs.Line.{step_text}
use Rattle.tv_trace.specs.declared.before.Left.{Left}
use Rattle.tv_trace.specs.declared.run.Shown.{Shown}

-- a step is one of those that are shown
abbrev pub is_shown : Shown → ℕ → Bool
is_shown shown step = nat_le shown.from step && nat_lt (step - shown.from) shown.count

-- the machine stops at an opcode that isn't used, by what is due and by what came of the step
abbrev pub is_undefined : Next → Bool
is_undefined (Next.Undefined op) = true
is_undefined _ = false

abbrev pub is_unused : Outcome → Bool
is_unused (outcomes.Undefined op) = true
is_unused _ = false

-- how many words are taken where so many are left, of tapes of these lengths
abbrev pub taken_by : Left → Left → Left
taken_by tapes left = record { primary = tapes.primary - left.primary; aux = tapes.aux - left.aux }

-- the line of the step with this number from a state, where it has one
abbrev pub line_of : ℕ → Left → Shown → ℕ → State → List ℕ
line_of w tapes shown step st =
    if is_shown shown step || is_undefined (next w st)
    then step_text w step (before_of w st) (state_after w 1 st) (taken_by tapes (left_of (state_after w 1 st)))
    else []

-- the lines after a step that leads to this: none where the machine stops
abbrev pub lines_after : (State → List ℕ) → Next → List ℕ
lines_after on (Next.Gone after) = on after
lines_after on (Next.Answered v) = []
lines_after on (Next.Undefined op) = []

-- the lines of n more steps from a state, where k were taken; steps count from 1
abbrev pub lines_from : ℕ → Left → Shown → ℕ → ℕ → State → List ℕ
lines_from w tapes shown k zero st = []
lines_from w tapes shown k (suc n) st =
    line_of w tapes shown (k + 1) st ++ lines_after (λ after. lines_from w tapes shown (k + 1) n after) (next w st)

-- the lines of at most t steps, of tapes of these lengths
abbrev pub lines_of : ℕ → Left → Shown → ℕ → State → List ℕ
lines_of w tapes shown t st = lines_from w tapes shown 0 t st

-- the text of a run of at most t steps from its start
abbrev pub trace_text : ℕ → Shown → ℕ → State → List ℕ
trace_text w shown t st = lines_of w (left_of st) shown t st
