use Rattle.tv_core.proofs.Common.{◌≡◌, ◌+◌, ◌*◌, ◌^◌, ◌≤◌, drop}
use Rattle.tv_outline.specs.Expansion.{weighed}
use Rattle.tv_outline.proofs.turn.weighed.Given as goal

-- what is summed, and what the rest adds
abbrev pub invariant-loop-i : goal.invariant-loop-i
invariant-loop-i l = record {
  is : l.sum + weighed (drop l.i l.weights) (drop l.i l.values) ≡ weighed l.weights l.values;
  below : l.sum ≤ l.i * 2 ^ 96;
}
