use Rattle.tv_core.proofs.Common.{◌≡◌, ◌≤◌, ℕ, sym, ap, ◌∙◌, subst, append-nil, arith}
use Rattle.tv_step.proofs.RangeLaws.{step_keeps_range}
use Rattle.tv_step.specs.Machine.{next}
use Rattle.tv_step.specs.State.{State}
use Rattle.tv_step.specs.Views.{state_of, CameTo}
use Rattle.tv_trace.specs.declared.before.Left.{Left}
use Rattle.tv_trace.proofs.LineLaws.{end_next, fewer_left, text_next}
use Rattle.tv_trace.proofs.run.trace_steps.Goals as goal

-- what is left is no more than before, and so no more than the whole
fits : {a b m n t : ℕ} → a ≡ m → b ≡ n → m ≤ n → b ≤ t → a ≤ t
fits e f h k = omega (arith, e, f, h, k)

pub returns-in-Answered-clause-text : goal.returns-in-Answered-clause-text
returns-in-Answered-clause-text g c =
    let st : State = state_of c.loop-taken.machine in
    let came = subst (λ o. CameTo (next g.row.W st) o st (state_of c.trace_step.new.machine)) c.in-Answered.is c.in_ok-trace_step.ensures.came in
    sym (append-nil c.trace_step.new.text.items)
    ∙ text_next g.row.W c.args.tracing.tapes c.args.tracing.shown c.loop-taken.taken c.args.t c.loop-taken-test.true st _ came.0
    c.loop-taken.text.items _ _ c.in_ok-trace_step.ensures.text c.loop-taken.invariant.text

pub returns-in-Answered-clause-end : goal.returns-in-Answered-clause-end
returns-in-Answered-clause-end g c =
    let st : State = state_of c.loop-taken.machine in
    let came = subst (λ o. CameTo (next g.row.W st) o st (state_of c.trace_step.new.machine)) c.in-Answered.is c.in_ok-trace_step.ensures.came in
    sym (end_next g.row.W c.args.tracing.tapes c.args.tracing.shown c.loop-taken.taken c.args.t c.loop-taken-test.true st _ came.0)
    ∙ c.loop-taken.invariant.end

pub returns-in-Undefined-clause-text : goal.returns-in-Undefined-clause-text
returns-in-Undefined-clause-text g c =
    let st : State = state_of c.loop-taken.machine in
    let came = subst (λ o. CameTo (next g.row.W st) o st (state_of c.trace_step.new.machine)) c.in-Undefined.is c.in_ok-trace_step.ensures.came in
    sym (append-nil c.trace_step.new.text.items)
    ∙ text_next g.row.W c.args.tracing.tapes c.args.tracing.shown c.loop-taken.taken c.args.t c.loop-taken-test.true st _ came.0
    c.loop-taken.text.items _ _ c.in_ok-trace_step.ensures.text c.loop-taken.invariant.text

pub returns-in-Undefined-clause-end : goal.returns-in-Undefined-clause-end
returns-in-Undefined-clause-end g c =
    let st : State = state_of c.loop-taken.machine in
    let came = subst (λ o. CameTo (next g.row.W st) o st (state_of c.trace_step.new.machine)) c.in-Undefined.is c.in_ok-trace_step.ensures.came in
    sym (end_next g.row.W c.args.tracing.tapes c.args.tracing.shown c.loop-taken.taken c.args.t c.loop-taken-test.true st _ came.0)
    ∙ c.loop-taken.invariant.end

pub loop-taken-preserved : goal.loop-taken-preserved
loop-taken-preserved g c =
    let st : State = state_of c.loop-taken.machine in
    let new : State = state_of c.trace_step.new.machine in
    let came = subst (λ o. CameTo (next g.row.W st) o st new) c.in-Gone.is c.in_ok-trace_step.ensures.came in
    let fewer = fewer_left g.row.W st new _ c.in_ok-trace_step.ensures.came in
    let before = c.loop-taken.invariant in
    let left = c.in_ok-trace_step.ensures.left in
    let primary : c.trace_step.new.left.primary ≤ c.args.tracing.tapes.primary =
    fits (ap (λ (l : Left). l.primary) left) (ap (λ (l : Left). l.primary) before.left) fewer.0 before.primary in
    let aux : c.trace_step.new.left.aux ≤ c.args.tracing.tapes.aux =
    fits (ap (λ (l : Left). l.aux) left) (ap (λ (l : Left). l.aux) before.left) fewer.1 before.aux in
    record {
      range = step_keeps_range g.row.W c.requires.width st new before.range came;
      left = left;
      primary = primary;
      aux = aux;
      text = text_next g.row.W c.args.tracing.tapes c.args.tracing.shown c.loop-taken.taken c.args.t c.loop-taken-test.true st _ came
          c.loop-taken.text.items _ _ c.in_ok-trace_step.ensures.text before.text;
      end = sym (end_next g.row.W c.args.tracing.tapes c.args.tracing.shown c.loop-taken.taken c.args.t c.loop-taken-test.true st _ came) ∙ before.end;
    }
