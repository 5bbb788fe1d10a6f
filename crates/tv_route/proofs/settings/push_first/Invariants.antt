use Rattle.tv_core.proofs.Common.{◌≡◌, ◌*◌, ◌++◌}
use Rattle.tv_benes.specs.Through.{places}
use Rattle.tv_route.specs.Route.{down}
use Rattle.tv_route.proofs.settings.push_first.Given as goal

abbrev pub invariant-loop-j : goal.invariant-loop-j
invariant-loop-j l = l.bits.items ≡ l.initial.bits.items ++ places l.j (λ j. down l.marks (2 * j))
