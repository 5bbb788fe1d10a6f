use Rattle.tv_core.proofs.Common.{◌≡◌, ◌/◌, if◌then◌else◌}
use Rattle.tv_benes.specs.Through.{places}
use Rattle.tv_route.specs.Route.{down_input, up_input}
use Rattle.tv_route.proofs.settings.inputs.Given as goal

abbrev pub invariant-loop-j : goal.invariant-loop-j
invariant-loop-j l = l.found.items ≡ places l.j (λ j. (if l.lower then down_input l.marks l.p j else up_input l.marks l.p j) / 2)
