use Rattle.tv_core.proofs.Common.{refl}
use Rattle.tv_top.specs.Build.{build_asks}
use Rattle.tv_plan.proofs.AnswerLaws.{does_stopped, does_found, completes_whole, completes_cut}
use Rattle.tv_top.proofs.build.BuildArgsJob.perform.Goals as goal

pub returns-in_err-program : goal.returns-in_err-program
returns-in_err-program g c = does_stopped (build_asks c.args.self) _ _ _ _ _ _ _ refl c.in_err-program.ensures.found c.from_residual.ensures.1

pub returns-in_err-streamed : goal.returns-in_err-streamed
returns-in_err-streamed g c = does_found (build_asks c.args.self) _ _ _ _ _ _ _ _ refl refl c.in_ok-program.ensures.found
    (completes_cut _ _ _ _ _ _ (rw (← c.in_err-streamed.ensures) at c.put_system.ensures) c.from_residual-in_err-streamed.ensures.1)

pub returns : goal.returns
returns g c = does_found (build_asks c.args.self) _ _ _ _ _ _ _ _ refl refl c.in_ok-program.ensures.found
    (completes_whole _ _ _ _ _ _ refl (rw (← c.in_ok-streamed.ensures) at c.put_system.ensures))
