use Rattle.tv_core.proofs.Common.{◌≡◌, ℕ, ◌+◌, length, subst}
use Rattle.std.proofs.Common.{IfOk}
use Rattle.tv_step.specs.Trace.{lines_of, states_of}
use Rattle.tv_step.proofs.run_trace.record_run.Goals as goal

pub returns-clause-lines : goal.returns-clause-lines
returns-clause-lines g c =
    let n : ℕ = length c.args.tape.now in
    subst (λ st. IfOk c.record.result (λ recorded. recorded.0 ≡ lines_of g.row.W n (length c.args.image.now + n) st c.args.t)) c.in_ok-machine.ensures
    c.record.ensures.lines

pub returns-clause-states : goal.returns-clause-states
returns-clause-states g c =
    let n : ℕ = length c.args.tape.now in
    let m : ℕ = length c.args.aux.now in
    subst (λ st. IfOk c.record.result (λ recorded. recorded.1 ≡ states_of g.row.W n m st c.args.t)) c.in_ok-machine.ensures c.record.ensures.states
