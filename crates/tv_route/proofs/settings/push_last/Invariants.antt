use Rattle.tv_core.proofs.Common.{◌≡◌, ◌+◌, ◌*◌, ◌++◌, slice_index}
use Rattle.tv_benes.specs.Through.{missing, places}
use Rattle.tv_route.specs.Route.{down}
use Rattle.tv_route.proofs.settings.push_last.Given as goal

abbrev pub invariant-loop-j : goal.invariant-loop-j
invariant-loop-j l = l.bits.items ≡ l.initial.bits.items ++ places l.j (λ j. down l.marks (slice_index l.p (2 * (j + missing l.fn.net))))
