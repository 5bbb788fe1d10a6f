use Rattle.tv_core.proofs.Common.{◌≡◌, ◌+◌, ◌*◌, refl, ap, ap₂, sym, ◌∙◌, ◌++◌, ◌∷◌, [], ℕ, suc, arith}
use Rattle.std.specs.Prelude.{◌||◌}
use Rattle.tv_step.specs.Machine.{state_after}
use Rattle.tv_step.specs.Reads.{ended_after, finds_end}
use Rattle.tv_step.specs.State.{State}
use Rattle.tv_step.specs.Trace.{step_lines, lines_of, states_of, traced_state}
use Rattle.tv_step.specs.Views.{state_of}
use Rattle.tv_step.proofs.RunLaws.{state_next}
use Rattle.tv_step.proofs.run_trace.record.Goals as goal

pub loop-taken-init : goal.loop-taken-init
loop-taken-init g c = record {
  state = refl;
  ended = refl;
  lines = c.in_ok-lines.ensures.items;
  states = c.in_ok-push.ensures.items
      ∙ ap (λ xs. xs ++ c.recorded.result ∷ []) c.in_ok-states.ensures.items
      ∙ ap (λ s. s ∷ []) c.recorded.ensures;
}

pub loop-taken-preserved : goal.loop-taken-preserved
loop-taken-preserved g c =
    let w : ℕ = g.row.W in
    let first : State = state_of c.args.machine.now in
    let k : ℕ = c.loop-taken.taken in
    let before = c.loop-taken.invariant in
    let more : suc k ≡ k + 1 = omega arith in
    let state : state_of c.record_step.new.self ≡ state_after w (k + 1) first =
    c.in_ok-step.ensures.state ∙ ap (state_after w 1) before.state ∙ state_next w k first in
    let lines = c.in_ok-step.ensures.lines ∙ ap (λ st. step_lines w c.args.n st (c.args.time + 3 * k)) before.state in
    let ended : c.in_ok-step.step.ended ≡ ended_after w (k + 1) first =
    c.in_ok-step.ensures.ended ∙ ap₂ (λ b st. b || finds_end w st) before.ended before.state ∙ ap (λ n. ended_after w n first) more in
    let recorded = c.recorded-in-loop-taken.ensures ∙ ap₂ (traced_state c.args.n c.args.m) (state ∙ ap (λ n. state_after w n first) (sym more))
    (ended ∙ ap (λ n. ended_after w n first) (sym more)) in
    record {
      state = state;
      ended = ended;
      lines = c.in_ok-extend_from_slice.ensures.items
          ∙ ap (λ xs. xs ++ c.in_ok-step.step.lines) before.lines
          ∙ ap (λ xs. lines_of w c.args.n c.args.time first k ++ xs) lines
          ∙ ap (lines_of w c.args.n c.args.time first) more;
      states = c.in_ok-push-2.ensures.items
          ∙ ap (λ xs. xs ++ c.recorded-in-loop-taken.result ∷ []) before.states
          ∙ ap (λ s. states_of w c.args.n c.args.m first k ++ s ∷ []) recorded
          ∙ ap (states_of w c.args.n c.args.m first) more;
    }

pub returns-clause-lines : goal.returns-clause-lines
returns-clause-lines g c =
    let all : c.loop-taken.taken ≡ c.args.t = omega arith in
    c.into.ensures ∙ c.loop-taken.invariant.lines ∙ ap (lines_of g.row.W c.args.n c.args.time (state_of c.args.machine.now)) all

pub returns-clause-states : goal.returns-clause-states
returns-clause-states g c =
    let all : c.loop-taken.taken ≡ c.args.t = omega arith in
    c.into-2.ensures ∙ c.loop-taken.invariant.states ∙ ap (states_of g.row.W c.args.n c.args.m (state_of c.args.machine.now)) all
