use Rattle.tv_core.proofs.Common.{refl, ap}
use Rattle.tv_stages.specs.declared.nets.Net.TheVariants.{Benes}
use Rattle.tv_extract.proofs.ExtractLaws.{extracted_is_run}
use Rattle.tv_top.specs.Assignment.{assigned_in, assigned_run, kept_in, run_ends}
use Rattle.tv_plan.specs.Kinds.{is_listing}
use Rattle.tv_top.specs.Listing.{listing_asks, lines_written}
use Rattle.tv_plan.proofs.AnswerLaws.{does_stopped, does_found, completes_as}
use Rattle.tv_top.proofs.AssignmentLaws.{completes_none, comes_kept, ends_in, kept_ran}
use Rattle.tv_top.specs.Build.{program_runs}
use Rattle.tv_top.proofs.listing.ListingArgsJob.perform.Goals as goal

pub write_lines-requires-clause-within : goal.write_lines-requires-clause-within
unfolding assigned_run
write_lines-requires-clause-within g c =
    let assigned = assigned_in c.in_ok-assigned.assigned in
    let ran = kept_ran Benes c.args.self.n c.args.self.t (kept_in c.in_ok-assigned.assigned) c.in-Ok.run' c.in-Ok.ensures.run in
    (extracted_is_run Benes (program_runs c.args.self.n c.args.self.t assigned.program) assigned.z c.in-Ok.run' ran).within

pub returns-in_err-assigned : goal.returns-in_err-assigned
returns-in_err-assigned g c =
    does_stopped (listing_asks c.args.self) _ _ _ _ _ _ _
    (comes_kept (lines_written c.args.self.by c.args.self.n c.args.self.t) _ _ _ _ _) c.in_err-assigned.ensures.found c.from_residual.ensures.1

pub returns-in-Ok : goal.returns-in-Ok
returns-in-Ok g c =
    let lines = lines_written c.args.self.by c.args.self.n c.args.self.t in
    let written = lines (assigned_in c.in_ok-assigned.assigned) in
    does_found (listing_asks c.args.self) _ _ _ _ _ _ _ _ (comes_kept lines _ _ _ _ _)
    (ends_in is_listing written (λ _. refl) (λ _. refl) _) c.in_ok-assigned.ensures.found
    (completes_as _ _ _ _ _ _ (ap (run_ends written) c.in-Ok.ensures.run) c.write_lines.ensures)

pub returns : goal.returns
returns g c =
    let lines = lines_written c.args.self.by c.args.self.n c.args.self.t in
    let written = lines (assigned_in c.in_ok-assigned.assigned) in
    does_found (listing_asks c.args.self) _ _ _ _ _ _ _ _ (comes_kept lines _ _ _ _ _)
    (ends_in is_listing written (λ _. refl) (λ _. refl) _) c.in_ok-assigned.ensures.found
    (rw c.not_run.ensures (completes_none _ written _ _ _ c.in-Err.ensures.fault))
