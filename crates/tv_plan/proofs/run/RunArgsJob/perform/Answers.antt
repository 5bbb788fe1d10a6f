use Rattle.tv_core.proofs.Common.{Ok, refl}
use Rattle.tv_plan.specs.Run.{run_asks}
use Rattle.tv_plan.proofs.AnswerLaws.{does_stopped, does_found, completes_nothing, completes_without_memory}
use Rattle.tv_plan.proofs.run.RunArgsJob.perform.Goals as goal

pub returns-in_err-inputs : goal.returns-in_err-inputs
returns-in_err-inputs g c = does_stopped (run_asks c.args.self) _ _ _ _ _ _ _ refl c.in_err-inputs.ensures.found c.from_residual.ensures.1

pub returns-in_err-end : goal.returns-in_err-end
returns-in_err-end g c = does_found (run_asks c.args.self) _ _ _ _ _ _ _ _ refl refl c.in_ok-inputs.ensures.found
    (completes_without_memory _ _ _ _ c.from_residual-in_err-end.ensures.1)

pub returns : goal.returns
returns g c = does_found (run_asks c.args.self) _ _ _ _ _ _ _ _ refl refl c.in_ok-inputs.ensures.found
    (completes_nothing _ _ (Ok _) _ (rw c.in_ok-end.ensures refl))
