use Rattle.tv_core.proofs.Common.{◌≡◌}
use Rattle.tv_route.specs.Route.{walks}
use Rattle.tv_route.proofs.marks.settle.Given as goal

abbrev pub invariant-loop-j : goal.invariant-loop-j
invariant-loop-j l = l.marks ≡ walks l.partner l.n l.j l.initial.marks
