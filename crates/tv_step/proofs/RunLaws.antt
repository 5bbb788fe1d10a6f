-- Runs, from where some steps were taken.
use Rattle.tv_core.proofs.Common.{◌≡◌, ◌<◌, ℕ, zero, suc, ◌+◌, ◌-◌, Bool, true, false, cond, ap, ◌∙◌, refl, arith}
use Rattle.tv_step.specs.Machine.{next, ended, end_from, end_of, left_in, state_after}
use Rattle.tv_step.specs.State.{State, Next}
use Rattle.tv_step.specs.declared.end.End.TheVariants as ends

-- k steps went on from one state to another
pub record Ran (w k : ℕ) (first st : State) : Type 0 where
  pub ends : (n : ℕ) → end_of w (k + n) first ≡ end_from w k n st
  pub states : (n : ℕ) → state_after w (k + n) first ≡ state_after w n st

pub ran_none : (w : ℕ) (st : State) → Ran w 0 st st
ran_none w st = record {
  ends = λ n. let same : 0 + n ≡ n = omega arith in ap (λ m. end_of w m st) same;
  states = λ n. let same : 0 + n ≡ n = omega arith in ap (λ m. state_after w m st) same;
}

module _ (w k : ℕ) (first st : State) (ran : Ran w k first st) where
  pub ran_on : (after : State) → next w st ≡ Next.Gone after → Ran w (k + 1) first after
  ran_on after goes = record {
    ends = λ n. let more : k + 1 + n ≡ k + suc n = omega arith in
        ap (λ m. end_of w m first) more ∙ ran.ends (suc n) ∙ ap (ended (λ a. end_from w (k + 1) n a) (k + 1)) goes;
    states = λ n. let more : k + 1 + n ≡ k + suc n = omega arith in
        ap (λ m. state_after w m first) more ∙ ran.states (suc n) ∙ ap (left_in (λ a. state_after w n a) st) goes;
  }

  -- a run of k steps, and one of more
  pub end_silent : end_of w k first ≡ ends.Silent k
  end_silent = let same : k ≡ k + 0 = omega arith in ap (λ m. end_of w m first) same ∙ ran.ends 0

  pub state_reached : state_after w k first ≡ st
  state_reached = let same : k ≡ k + 0 = omega arith in ap (λ m. state_after w m first) same ∙ ran.states 0

  module _ (t : ℕ) (within : k < t) (came : Next) (stops : next w st ≡ came) where
    more : t ≡ k + suc (t - (k + 1))
    more = omega arith

    pub end_stopped : end_of w t first ≡ ended (λ a. end_from w (k + 1) (t - (k + 1)) a) (k + 1) came
    end_stopped = ap (λ m. end_of w m first) more ∙ ran.ends (suc (t - (k + 1))) ∙ ap (ended (λ a. end_from w (k + 1) (t - (k + 1)) a) (k + 1)) stops

    pub state_stopped : state_after w t first ≡ left_in (λ a. state_after w (t - (k + 1)) a) st came
    state_stopped = ap (λ m. state_after w m first) more ∙ ran.states (suc (t - (k + 1))) ∙ ap (left_in (λ a. state_after w (t - (k + 1)) a) st) stops

-- the state after one more step
one_more : (w k : ℕ) (st : State) → ((after : State) → state_after w 1 (state_after w k after) ≡ state_after w (k + 1) after) → (came : Next) → next w st ≡ came
    → state_after w 1 (left_in (λ after. state_after w k after) st came) ≡ left_in (λ after. state_after w (k + 1) after) st came
one_more w k st following (Next.Gone after) same = following after
one_more w k st following (Next.Answered v) same = ap (left_in (λ after. after) st) same
one_more w k st following (Next.Undefined op) same = ap (left_in (λ after. after) st) same

pub state_next : (w k : ℕ) (st : State) → state_after w 1 (state_after w k st) ≡ state_after w (k + 1) st
state_next w zero st = refl
state_next w (suc k) st =
    let more : suc (k + 1) ≡ suc k + 1 = omega arith in
    one_more w k st (state_next w k) (next w st) refl ∙ ap (λ n. state_after w n st) more

-- what is so of two is so of the one that a test chooses
pub either : {A : Type 0} (P : A → Type 0) (b : Bool) (u v : A) → P u → P v → P (cond b u v)
either P true u v h k = h
either P false u v h k = k
