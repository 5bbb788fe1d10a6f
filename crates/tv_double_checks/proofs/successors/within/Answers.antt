use Rattle.tv_core.proofs.Common.{some_then, some_first, then_in, refused_whole}
use Rattle.tv_double_checks.specs.Within.{within_of}
use Rattle.tv_double_checks.proofs.successors.within.Goals as goal

pub returns-in_err-reach : goal.returns-in_err-reach
unfolding within_of
returns-in_err-reach g c =
    refused_whole _ _ _ c.from_residual.ensures (some_first _ c.in_err-reach.ensures.emits)

pub returns-in_err-g : goal.returns-in_err-g
unfolding within_of
returns-in_err-g g c =
    let kept = rw c.set_excess.ensures.terms at c.in_err-g.ensures.emits in
    refused_whole _ _ _ c.from_residual-in_err-g.ensures (some_then _ c.in_ok-reach.ensures.emits (some_first _ kept))

pub returns : goal.returns
unfolding within_of
returns g c =
    let kept = rw c.set_excess.ensures.terms at c.in_ok-g.ensures.emits in
    record { emits = then_in _ _ _ _ _ c.in_ok-reach.ensures.emits (then_in _ _ _ _ _ kept c.either.ensures.emits) }
