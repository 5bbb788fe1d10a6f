use Rattle.tv_core.proofs.Common.{Ok, refl}
use Rattle.tv_plan.specs.Check.{check_asks}
use Rattle.tv_plan.proofs.AnswerLaws.{does_stopped, does_found, completes_nothing}
use Rattle.tv_plan.proofs.check.CheckArgsJob.perform.Goals as goal

pub returns-in_err-verdict : goal.returns-in_err-verdict
returns-in_err-verdict g c = does_stopped (check_asks c.args.self) _ _ _ _ _ _ _ refl c.in_err-verdict.ensures c.from_residual.ensures.1

pub returns : goal.returns
returns g c = does_found (check_asks c.args.self) _ _ _ _ _ _ _ _ refl refl c.in_ok-verdict.ensures (completes_nothing _ _ (Ok _) _ refl)
