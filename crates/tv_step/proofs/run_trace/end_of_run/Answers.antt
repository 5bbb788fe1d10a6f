use Rattle.tv_core.proofs.Common.{◌≡◌, ℕ, subst}
use Rattle.std.proofs.Common.{IfOk}
use Rattle.tv_step.specs.Machine.{start, end_of}
use Rattle.tv_step.specs.State.{State}
use Rattle.tv_step.proofs.run_trace.end_of_run.Goals as goal

pub returns : goal.returns
returns g c =
    let w : ℕ = g.row.W in
    let first : State = start w c.args.image.now c.args.tape.now c.args.aux.now in
    subst (λ k. IfOk c.run.result (λ end. end ≡ end_of w k first)) c.from.ensures
    (subst (λ st. IfOk c.run.result (λ end. end ≡ end_of w c.from.result st)) c.in_ok-start_on.ensures c.run.ensures.end)
