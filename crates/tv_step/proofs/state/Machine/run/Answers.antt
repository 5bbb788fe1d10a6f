use Rattle.tv_core.proofs.Common.{◌≡◌, ◌<◌, ℕ, rules, sym, ap, subst, ◌∙◌, arith}
use Rattle.tv_step.proofs.RunLaws.{ran_none, ran_on, end_silent, end_stopped, state_reached, state_stopped}
use Rattle.tv_step.specs.Machine.{end_of, state_after}
use Rattle.tv_step.specs.Views.{state_of}
use Rattle.tv_step.specs.declared.end.End.TheVariants as ends
use Rattle.tv_step.proofs.state.Machine.run.Goals as goal

pub loop-taken-init : goal.loop-taken-init
loop-taken-init g c = ran_none g.row.W (state_of c.args.self.now)

pub loop-taken-preserved : goal.loop-taken-preserved
loop-taken-preserved g c = ran_on _ _ _ _ c.loop-taken.invariant _ (rw c.in-Gone.is at c.in_ok-step.ensures.ok)

pub returns-in_err-step-clause-err : goal.returns-in_err-step-clause-err
returns-in_err-step-clause-err g c =
    let reached : state_of c.step.new.self ≡ state_after g.row.W c.loop-taken.taken (state_of c.args.self.now) =
    c.in_err-step.ensures.err ∙ sym (state_reached _ _ _ _ c.loop-taken.invariant) in
    let found : (n : ℕ) × (n < c.args.t) × (state_of c.step.new.self ≡ state_after g.row.W n (state_of c.args.self.now)) =
    (c.loop-taken.taken, c.loop-taken-test.true, reached) in
    search rules

pub returns-in-Answered-clause-end : goal.returns-in-Answered-clause-end
returns-in-Answered-clause-end g c =
    let came = rw c.in-Answered.is at c.in_ok-step.ensures.ok in
    sym (end_stopped _ _ _ _ c.loop-taken.invariant c.args.t c.loop-taken-test.true _ came.0)

pub returns-in-Answered-clause-state : goal.returns-in-Answered-clause-state
returns-in-Answered-clause-state g c =
    let came = rw c.in-Answered.is at c.in_ok-step.ensures.ok in
    came.1 ∙ sym (state_stopped _ _ _ _ c.loop-taken.invariant c.args.t c.loop-taken-test.true _ came.0)

pub returns-in-Undefined-clause-end : goal.returns-in-Undefined-clause-end
returns-in-Undefined-clause-end g c =
    let came = rw c.in-Undefined.is at c.in_ok-step.ensures.ok in
    sym (end_stopped _ _ _ _ c.loop-taken.invariant c.args.t c.loop-taken-test.true _ came.0)

pub returns-in-Undefined-clause-state : goal.returns-in-Undefined-clause-state
returns-in-Undefined-clause-state g c =
    let came = rw c.in-Undefined.is at c.in_ok-step.ensures.ok in
    came.1 ∙ sym (state_stopped _ _ _ _ c.loop-taken.invariant c.args.t c.loop-taken-test.true _ came.0)

pub returns-clause-end : goal.returns-clause-end
returns-clause-end g c =
    let all : c.loop-taken.taken ≡ c.args.t = omega arith in
    subst (λ k. ends.Silent k ≡ end_of g.row.W k (state_of c.args.self.now)) all (sym (end_silent _ _ _ _ c.loop-taken.invariant))

pub returns-clause-state : goal.returns-clause-state
returns-clause-state g c =
    let all : c.loop-taken.taken ≡ c.args.t = omega arith in
    sym (state_reached _ _ _ _ c.loop-taken.invariant) ∙ ap (λ k. state_after g.row.W k (state_of c.args.self.now)) all
