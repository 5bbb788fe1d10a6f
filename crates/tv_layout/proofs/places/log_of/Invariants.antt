use Rattle.tv_core.proofs.Common.{◌≡◌, ◌-◌, ◌≤◌}
use Rattle.tv_layout.specs.Places.{log_from}
use Rattle.tv_layout.proofs.places.log_of.Given as goal

abbrev pub invariant-loop-k : goal.invariant-loop-k
invariant-loop-k l = (l.k ≤ 20) × (log_from (20 - l.k) l.k l.count ≡ log_from 19 1 l.count)

abbrev pub decreases-loop-k : goal.decreases-loop-k
decreases-loop-k l = 20 - l.k
