use Rattle.tv_core.proofs.Common.{refl}
use Rattle.tv_top.specs.Assignment.{kept_of}
use Rattle.tv_plan.proofs.LookLaws.{finds_on, finds_short, finds_still}
use Rattle.tv_top.proofs.assignment.read_assigned.Goals as goal

pub returns-in_err-program-clause-found : goal.returns-in_err-program-clause-found
unfolding kept_of
returns-in_err-program-clause-found g c = finds_short _ _ _ _ c.from_residual.ensures.1 c.in_err-program.ensures.found

pub returns-in_err-first-clause-found : goal.returns-in_err-first-clause-found
unfolding kept_of
returns-in_err-first-clause-found g c =
    finds_on _ c.in_ok-program.ensures.found
    (finds_short _ _ _ _ c.from_residual-in_err-first.ensures.1 (rw c.wires_of-wires.ensures at c.in_err-first.ensures))

pub returns-clause-found : goal.returns-clause-found
unfolding kept_of
returns-clause-found g c = finds_on _ c.in_ok-program.ensures.found
    (finds_on _ (rw c.wires_of-wires.ensures at c.in_ok-first.ensures) (finds_still (λ files known. refl)))
