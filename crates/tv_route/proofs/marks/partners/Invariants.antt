use Rattle.tv_core.proofs.Common.{◌≡◌}
use Rattle.tv_route.specs.Route.{partners}
use Rattle.tv_route.proofs.marks.partners.Given as goal

abbrev pub invariant-loop-j : goal.invariant-loop-j
invariant-loop-j l = l.found.items ≡ partners l.p l.j
