-- What a trace says of a run, and when there is none.
use Rattle.std.specs.Prelude.{◌≡◌, ℕ, ◌+◌, List, length}
use Rattle.tv_step.specs.Machine.{start, end_of, Accepts}
use Rattle.tv_step.specs.Trace.{lines_of, states_of}
use Rattle.tv_step.specs.declared.lines.Trace.{Trace}
use Rattle.tv_step.specs.declared.run_trace.TraceFault.{TraceFault}
use Rattle.tv_step.specs.declared.run_trace.TraceFault.TheVariants.{NoRun, Memory}

-- the trace of a run on an image and two tapes that answers within t steps: the value that it answers, the lines
-- of t steps, whose times begin after those of the image's and the primary tape's words, and t + 1 states
pub record IsTrace (w : ℕ) (image primary aux : List ℕ) (t : ℕ) (trace : Trace) : Type 0 where
  pub answer : Accepts w image primary aux t trace.answer
  pub lines : trace.lines ≡ lines_of w (length primary) (length image + length primary) (start w image primary aux) t
  pub states : trace.states ≡ states_of w (length primary) (length aux) (start w image primary aux) t

-- no trace is there: the run ends so, and answers nothing; or memory ran out
abbrev pub IsRefused : ℕ → List ℕ → List ℕ → List ℕ → ℕ → TraceFault → Type 0
IsRefused w image primary aux t (NoRun end) = (end ≡ end_of w t (start w image primary aux)) × ((v : ℕ) → Accepts w image primary aux t v → ⊥)
IsRefused w image primary aux t Memory = Unit {0}
