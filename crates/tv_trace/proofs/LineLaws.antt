-- The line of a step, and the lines of a run by its first step.
use Rattle.tv_core.proofs.Common.{◌≡◌, ℕ, suc, ◌+◌, ◌-◌, ◌<◌, true, false, List, [], ◌++◌, refl, sym, ap, ap₂, ◌∙◌, ◌≤◌, append_assoc, subst, arith}
use Rattle.std.specs.Prelude.{◌||◌, if◌then◌else◌}
use Rattle.tv_step.proofs.ReadLaws.{tapes_are_left}
use Rattle.tv_step.specs.Machine.{next, ended, end_from, left_in, state_after}
use Rattle.tv_step.specs.State.{State, Next}
use Rattle.tv_step.specs.Views.{CameTo}
use Rattle.tv_step.specs.declared.end.Outcome.{Outcome}
use Rattle.tv_step.specs.declared.end.Outcome.TheVariants as outcomes
use Rattle.tv_trace.specs.Before.{before_of, taken_of, left_of}
use Rattle.tv_trace.specs.Line.{step_text}
use Rattle.tv_trace.specs.Trace.{is_shown, is_undefined, is_unused, taken_by, line_of, lines_after, lines_from}
use Rattle.tv_trace.specs.declared.before.Before.{Before}
use Rattle.tv_trace.specs.declared.before.Left.{Left}
use Rattle.tv_trace.specs.declared.run.Shown.{Shown}
use Rattle.tv_trace.proofs.TapeLaws.{left_after}

-- the state that a step leaves, and whether the machine stops at an opcode that isn't used
came_after : (w : ℕ) (due : Next) (outcome : Outcome) (st new : State) → next w st ≡ due → CameTo due outcome st new → new ≡ state_after w 1 st
came_after w due outcomes.Gone st new e came = sym (ap (left_in (λ after. after) st) (e ∙ came))
came_after w due (outcomes.Answered value) st new e came = came.1 ∙ sym (ap (left_in (λ after. after) st) (e ∙ came.0))
came_after w due (outcomes.Undefined op) st new e came = came.1 ∙ sym (ap (left_in (λ after. after) st) (e ∙ came.0))

came_unused : (due : Next) (outcome : Outcome) (st new : State) → CameTo due outcome st new → is_unused outcome ≡ is_undefined due
came_unused due outcomes.Gone st new came = sym (ap is_undefined came)
came_unused due (outcomes.Answered value) st new came = sym (ap is_undefined came.0)
came_unused due (outcomes.Undefined op) st new came = sym (ap is_undefined came.0)

module _ (w : ℕ) (tapes : Left) (shown : Shown) (step : ℕ) (st new : State) (outcome : Outcome) (came : CameTo (next w st) outcome st new) where
  new_is : new ≡ state_after w 1 st
  new_is = came_after w (next w st) outcome st new refl came

  -- how many words are left
  pub left_is : (before : Before) (left after : Left) → before ≡ before_of w st → left ≡ left_of st
      → after ≡ record { primary = left.primary - taken_of before 0; aux = left.aux - taken_of before 1 } → after ≡ left_of new
  left_is before left after e f is =
      is
      ∙ ap₂ (λ (b : Before) (l : Left). record { primary = l.primary - taken_of b 0; aux = l.aux - taken_of b 1 }) e f
      ∙ sym (left_after w st) ∙ ap left_of (sym new_is)

  -- whether the step has a line
  shows_is : (is_shown shown step || is_unused outcome) ≡ (is_shown shown step || is_undefined (next w st))
  shows_is = ap (λ b. is_shown shown step || b) (came_unused (next w st) outcome st new came)

  abbrev line : List ℕ
  line = step_text w step (before_of w st) (state_after w 1 st) (taken_by tapes (left_of (state_after w 1 st)))

  -- its line, where it has one
  pub line_shown : (before : Before) (left taken : Left) → before ≡ before_of w st → left ≡ left_of new → taken ≡ taken_by tapes left
      → (is_shown shown step || is_unused outcome) ≡ true → step_text w step before new taken ≡ line_of w tapes shown step st
  line_shown before left taken e f is shows =
      ap (step_text w step before new) (is ∙ ap (taken_by tapes) f)
      ∙ ap₂ (λ (b : Before) (s : State). step_text w step b s (taken_by tapes (left_of s))) e new_is
      ∙ sym (ap (λ b. if b then line else []) (sym shows_is ∙ shows))

  pub line_hidden : (is_shown shown step || is_unused outcome) ≡ false → [] ≡ line_of w tapes shown step st
  line_hidden hides = sym (ap (λ b. if b then line else []) (sym shows_is ∙ hides))

module _ (w : ℕ) (tapes : Left) (shown : Shown) (k t : ℕ) (within : k < t) (st : State) (came : Next) (leads : next w st ≡ came) where
  more : t - k ≡ suc (t - (k + 1))
  more = omega arith

  -- the lines and the end of a run, where the step after k leads to this
  pub lines_next : lines_from w tapes shown k (t - k) st
      ≡ line_of w tapes shown (k + 1) st ++ lines_after (λ after. lines_from w tapes shown (k + 1) (t - (k + 1)) after) came
  lines_next = ap (λ n. lines_from w tapes shown k n st) more
      ∙ ap (λ c. line_of w tapes shown (k + 1) st ++ lines_after (λ after. lines_from w tapes shown (k + 1) (t - (k + 1)) after) c) leads

  pub end_next : end_from w k (t - k) st ≡ ended (λ after. end_from w (k + 1) (t - (k + 1)) after) (k + 1) came
  end_next = ap (λ n. end_from w k n st) more ∙ ap (ended (λ after. end_from w (k + 1) (t - (k + 1)) after) (k + 1)) leads

  -- the text once that step's line was added
  pub text_next : (text new whole : List ℕ) → new ≡ text ++ line_of w tapes shown (k + 1) st → text ++ lines_from w tapes shown k (t - k) st ≡ whole
      → new ++ lines_after (λ after. lines_from w tapes shown (k + 1) (t - (k + 1)) after) came ≡ whole
  text_next text new whole adds was =
      let left = lines_after (λ after. lines_from w tapes shown (k + 1) (t - (k + 1)) after) came in
      ap (λ l. l ++ left) adds ∙ append_assoc text (line_of w tapes shown (k + 1) st) left ∙ sym (ap (λ l. text ++ l) lines_next) ∙ was

-- no more words are left after a step
pub fewer_left : (w : ℕ) (st new : State) (outcome : Outcome) → CameTo (next w st) outcome st new
    → ((left_of new).primary ≤ (left_of st).primary) × ((left_of new).aux ≤ (left_of st).aux)
fewer_left w st new outcome came =
    let same : state_after w 1 st ≡ new = sym (came_after w (next w st) outcome st new refl came) in
    let rest = tapes_are_left w 1 st in
    subst (λ (s : State). ((left_of s).primary ≤ (left_of st).primary) × ((left_of s).aux ≤ (left_of st).aux)) same (rest.0.short, rest.1.short)
