-- Runs that answer, step by step.
use Rattle.tv_core.proofs.Common.{◌≡◌, ℕ, zero, suc, ◌+◌, ◌-◌, ◌<◌, ◌≤◌, refl, sym, ap, ◌∙◌, arith, subst}
use Rattle.tv_step.proofs.RunLaws.{state_next}
use Rattle.tv_step.specs.Machine.{next, ended, end_from, end_of, left_in, state_after}
use Rattle.tv_step.specs.Runs.{IsDefined, Answering, AnswerIsWithin, EndAnswers, LastAnswers, StepsAtTheEnd, StepsAtTheFront, AnswerStays}
use Rattle.tv_step.specs.State.{State, Next}
use Rattle.tv_step.specs.declared.end.End.TheVariants as ends

-- ---- from an answer of a run to its steps
pub record Answered (w k n v step : ℕ) (st : State) : Type 0 where
  pub first : k + 1 ≤ step
  pub within : step ≤ k + n
  pub steps : Answering w st n v

gone_at : (w i : ℕ) (st after : State) → next w st ≡ Next.Gone after → state_after w (suc i) st ≡ state_after w i after
gone_at w i st after e = ap (left_in (λ s. state_after w i s) st) e

stays : (w i : ℕ) (st : State) (v : ℕ) → next w st ≡ Next.Answered v → state_after w i st ≡ st
stays w zero st v e = refl
stays w (suc i) st v e = ap (left_in (λ s. state_after w i s) st) e

gone_on : (w n v : ℕ) (st after : State) → next w st ≡ Next.Gone after → Answering w after n v → Answering w st (suc n) v
gone_on w n v st after e later = record {
  some = omega arith;
  defined = each;
  last =
      let some = later.some in
      let place : suc n - 1 ≡ suc (n - 1) = omega arith in
      ap (λ k. next w (state_after w k st)) place ∙ ap (next w) (gone_at w (n - 1) st after e) ∙ later.last;
}
  where
    each : (i : ℕ) → i < suc n → IsDefined w (state_after w i st)
    each zero h = λ op u. let both : Next.Gone after ≡ Next.Undefined op = sym e ∙ u in cc
    each (suc i) h = subst (IsDefined w) (sym (gone_at w i st after e)) (later.defined i (omega arith))

at_once : (w n v : ℕ) (st : State) → next w st ≡ Next.Answered v → Answering w st (suc n) v
at_once w n v st e = record {
  some = omega arith;
  defined = λ i h. subst (IsDefined w) (sym (stays w i st v e)) (λ op u. let both : Next.Answered v ≡ Next.Undefined op = sym e ∙ u in cc);
  last = ap (next w) (stays w (suc n - 1) st v e) ∙ e;
}

by_next : (w k n v step : ℕ) (st : State) → ((after : State) → end_from w (k + 1) n after ≡ ends.Answer v step → Answered w (k + 1) n v step after)
    → (came : Next) → next w st ≡ came → ended (λ s. end_from w (k + 1) n s) (k + 1) came ≡ ends.Answer v step → Answered w k (suc n) v step st
by_next w k n v step st later (Next.Gone after) e f =
    let rest = later after f in
    let first = rest.first in
    let within = rest.within in
    record { first = omega arith; within = omega arith; steps = gone_on w n v st after e rest.steps }
by_next w k n v step st later (Next.Answered u) e f =
    let value : u ≡ v = cc in
    let place : k + 1 ≡ step = cc in
    record { first = omega arith; within = omega arith; steps = at_once w n v st (e ∙ ap Next.Answered value) }
by_next w k n v step st later (Next.Undefined op) e f = absurd cc

answered : (w k n v step : ℕ) (st : State) → end_from w k n st ≡ ends.Answer v step → Answered w k n v step st
answered w k zero v step st e = absurd cc
answered w k (suc n) v step st e = by_next w k n v step st (λ after f. answered w (k + 1) n v step after f) (next w st) refl e

pub answer_is_within : AnswerIsWithin
answer_is_within w t st v step e =
    let found = answered w 0 t v step st e in
    let first = found.first in
    let within = found.within in
    (omega arith, omega arith)

pub end_answers : EndAnswers
end_answers w t st v step e = (answered w 0 t v step st e).steps

-- ---- from a state that answers to the run's answer
abbrev Ends : ℕ → ℕ → ℕ → ℕ → State → Type 0
Ends w k n v st = (step : ℕ) × (step ≤ k + n) × (end_from w k n st ≡ ends.Answer v step)

ends_by : (w k n v : ℕ) (st : State) (came : Next) → next w st ≡ came
    → ((after : State) → next w (state_after w n after) ≡ Next.Answered v → Ends w (k + 1) (suc n) v after)
    → next w (left_in (λ after. state_after w n after) st came) ≡ Next.Answered v
    → (step : ℕ) × (step ≤ k + suc (suc n)) × (ended (λ after. end_from w (k + 1) (suc n) after) (k + 1) came ≡ ends.Answer v step)
ends_by w k n v st (Next.Gone after) is later e =
    let found = later after e in
    let bound : found.0 ≤ k + 1 + suc n = found.1 in
    (found.0, omega (arith, bound), found.2)
ends_by w k n v st (Next.Answered u) is later e = let same : u ≡ v = cc in (k + 1, omega arith, ap (λ x. ends.Answer x (k + 1)) same)
ends_by w k n v st (Next.Undefined op) is later e = absurd cc

ends_in : (w k n v : ℕ) (st : State) → next w (state_after w n st) ≡ Next.Answered v → Ends w k (suc n) v st
ends_in w k zero v st e = (k + 1, omega arith, ap (λ came. ended (λ after. ends.Silent (k + 1)) (k + 1) came) e)
ends_in w k (suc n) v st e = ends_by w k n v st (next w st) refl (λ after. ends_in w (k + 1) n v after) e

pub last_answers : LastAnswers
last_answers w t st v e =
    let found = ends_in w 0 t v st e in
    let bound : found.0 ≤ 0 + suc t = found.1 in
    let more : suc t ≡ t + 1 = omega arith in
    (found.0, omega (arith, bound), ap (λ k. end_of w k st) (sym more) ∙ found.2)

pub steps_at_the_end : StepsAtTheEnd
steps_at_the_end w t st = sym (state_next w t st)

pub steps_at_the_front : StepsAtTheFront
steps_at_the_front w t st after e = let more : t + 1 ≡ suc t = omega arith in ap (λ k. state_after w k st) more ∙ gone_at w t st after e

pub answer_stays : AnswerStays
answer_stays w t st v e = stays w t st v e
