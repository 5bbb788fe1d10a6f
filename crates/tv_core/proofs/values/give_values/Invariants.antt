use Rattle.std.proofs.Common.{◌≡◌, take, false}
use Rattle.tv_core.specs.Values.{GivesAll}
use Rattle.tv_core.proofs.values.give_values.Given as goal

abbrev pub invariant-loop-value : goal.invariant-loop-value
invariant-loop-value g l = GivesAll g.V.Values.giving l.initial.v l.v (take l.value-index l.values) × (g.V.Values.giving.broken l.v ≡ false)
