use Rattle.std.proofs.Common.{◌≤◌, length}
use Rattle.tv_core.specs.Normal.{place}
use Rattle.tv_core.proofs.combination.place.Given as goal

abbrev pub invariant-loop-at : goal.invariant-loop-at
invariant-loop-at l = (place l.fn.wire l.terms ≤ l.at) × (l.at ≤ length l.terms)

abbrev pub decreases-loop-at : goal.decreases-loop-at
decreases-loop-at l = l.at
