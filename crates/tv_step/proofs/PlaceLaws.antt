-- A trace's lines and states by place.
use Rattle.tv_core.proofs.Common.{◌≡◌, ℕ, zero, suc, ◌+◌, ◌-◌, ◌*◌, ◌<◌, ◌==◌, [], ◌∷◌, get_or, Option, Some, None, refl, sym, ap, ap₂, ◌∙◌, arith, inl, inr}
use Rattle.tv_core.proofs.Common.{cases_eq, length-append, Line}
use Rattle.std.specs.Prelude.{if◌then◌else◌, slice_get}
use Rattle.std.proofs.lemmas.List.{get_or_append_left, get_or-append_right}
use Rattle.tv_step.specs.Cells.{LinesAreThreeAStep, StatesAreOneMore, LinesByPlace, StatesByPlace, TimesFollow}
use Rattle.tv_step.specs.Machine.{fetched, operand, state_after}
use Rattle.tv_step.specs.Ops.{op_of}
use Rattle.tv_step.specs.State.{State}
use Rattle.tv_step.specs.Trace.{touched_line, tape_line, step_lines, lines_of, states_of, traced_state_after}
use Rattle.tv_step.specs.declared.op.Op.{Op}
use Rattle.tv_step.specs.declared.op.Op.TheVariants.{StoreB, LoadB, StoreW, LoadW, Read}

pub lines_are_three_a_step : LinesAreThreeAStep
lines_are_three_a_step w n time st zero = refl
lines_are_three_a_step w n time st (suc t) =
    length-append (lines_of w n time st t) (step_lines w n (state_after w t st) (time + 3 * t)) ∙ omega (arith, lines_are_three_a_step w n time st t)

pub states_are_one_more : StatesAreOneMore
states_are_one_more w n m st zero = refl
states_are_one_more w n m st (suc t) = length-append (states_of w n m st t) _ ∙ omega (arith, states_are_one_more w n m st t)

pub lines_by_place : LinesByPlace
lines_by_place w n time st zero i j past h k = absurd (omega arith)
lines_by_place w n time st (suc t) i j past h k = elim (cases_eq i t) [
  | inl last ↦
      let place : 3 * i + j - 3 * t ≡ j = omega arith in
      get_or-append_right (lines_of w n time st t) _ (3 * t) (3 * i + j) past (lines_are_three_a_step w n time st t) (omega arith)
      ∙ ap₂ (λ a b. get_or (step_lines w n (state_after w a st) (time + 3 * a)) b past) (sym last) place
  | inr before ↦ get_or_append_left (lines_of w n time st t) _ past (3 * i + j) (omega (arith, lines_are_three_a_step w n time st t))
      ∙ lines_by_place w n time st t i j past (omega arith) k
]

pub states_by_place : StatesByPlace
states_by_place w n m st zero i past h = let same : i ≡ 0 = omega arith in rw same refl
states_by_place w n m st (suc t) i past h = elim (cases_eq i (suc t)) [
  | inl last ↦
      let none : i - (t + 1) ≡ 0 = omega arith in
      get_or-append_right (states_of w n m st t) _ (t + 1) i past (states_are_one_more w n m st t) (omega arith)
      ∙ ap (λ k. get_or (traced_state_after w n m st (suc t) ∷ []) k past) none ∙ ap (traced_state_after w n m st) (sym last)
  | inr before ↦ get_or_append_left (states_of w n m st t) _ past i (omega (arith, states_are_one_more w n m st t))
      ∙ states_by_place w n m st t i past (omega arith)
]

-- ---- times
tape_time : (n : ℕ) (st : State) (found : Option ℕ) (time : ℕ) → (tape_line n st found time).time ≡ time
tape_time n st None time = refl
tape_time n st (Some v) time = refl

pub line_time : (w n : ℕ) (op : Op) (st : State) (a time : ℕ) → (touched_line w n op st a time).time ≡ time
line_time w n StoreB st a time = refl
line_time w n LoadB st a time = refl
line_time w n StoreW st a time = refl
line_time w n LoadW st a time = refl
line_time w n Read st a time = tape_time n st (if a == 0 then slice_get st.primary 0 else None) time
line_time w n _ st a time = refl

step_time : (w n : ℕ) (st : State) (time j : ℕ) (past : Line) → j < 3 → (get_or (step_lines w n st time) j past).time ≡ time + j
step_time w n st time zero past h = omega arith
step_time w n st time (suc zero) past h = refl
step_time w n st time (suc (suc zero)) past h = line_time w n (op_of (fetched w st).op) st (operand st (fetched w st)) (time + 2)
step_time w n st time (suc (suc (suc j))) past h = absurd (omega arith)

pub times_follow : TimesFollow
times_follow w n time st t i j past h k =
    ap (λ (l : Line). l.time) (lines_by_place w n time st t i j past h k) ∙ step_time w n (state_after w i st) (time + 3 * i) j past k ∙ omega arith
