use Rattle.tv_core.proofs.Common.{refl, ap}
use Rattle.tv_top.specs.Assignment.{run_ends}
use Rattle.tv_top.specs.Extract.{extract_asks, run_written}
use Rattle.tv_plan.specs.Kinds.{is_extract}
use Rattle.tv_plan.proofs.AnswerLaws.{does_stopped, does_found, completes_as}
use Rattle.tv_top.proofs.AssignmentLaws.{completes_none, comes_kept, ends_in}
use Rattle.tv_top.proofs.extract.ExtractArgsJob.perform.Goals as goal

pub returns-in_err-assigned : goal.returns-in_err-assigned
returns-in_err-assigned g c =
    does_stopped (extract_asks c.args.self) _ _ _ _ _ _ _ (comes_kept (λ _. run_written) _ _ _ _ _) c.in_err-assigned.ensures.found c.from_residual.ensures.1

pub returns-in-Ok : goal.returns-in-Ok
returns-in-Ok g c =
    does_found (extract_asks c.args.self) _ _ _ _ _ _ _ _ (comes_kept (λ _. run_written) _ _ _ _ _)
    (ends_in is_extract run_written (λ _. refl) (λ _. refl) _) c.in_ok-assigned.ensures.found
    (completes_as _ _ _ _ _ _ (ap (run_ends run_written) c.in-Ok.ensures.run) c.write_run.ensures)

pub returns : goal.returns
returns g c =
    does_found (extract_asks c.args.self) _ _ _ _ _ _ _ _ (comes_kept (λ _. run_written) _ _ _ _ _)
    (ends_in is_extract run_written (λ _. refl) (λ _. refl) _) c.in_ok-assigned.ensures.found
    (rw c.not_run.ensures (completes_none _ run_written _ _ _ c.in-Err.ensures.fault))
