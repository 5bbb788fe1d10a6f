use Rattle.tv_core.proofs.Common.{arith, some_first, refused_whole, then_in, emits_in}
use Rattle.tv_double_checks.specs.Guard.{guard_of}
use Rattle.tv_double_checks.proofs.guards.guard.Goals as goal

pub returns-in_err-reach : goal.returns-in_err-reach
unfolding guard_of
returns-in_err-reach g c = refused_whole _ _ _ c.from_residual.ensures (some_first _ c.in_err-reach.ensures.emits)

pub returns : goal.returns
unfolding guard_of
returns g c =
    let last = rw (c.set_cell_difference.ensures.terms, c.terms.ensures.terms, c.set_excess.ensures.terms, c.clear.ensures) at c.put.ensures.emits in
    record { emits = emits_in _ _ _ _ _ (omega arith) (omega arith) (then_in _ _ _ _ _ c.in_ok-reach.ensures.emits last) }
