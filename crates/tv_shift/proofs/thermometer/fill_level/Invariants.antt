use Rattle.tv_core.proofs.Common.{◌≡◌, false, GivesAll, each_below}
use Rattle.tv_shift.specs.Thermometer.{level_value}
use Rattle.tv_shift.proofs.thermometer.fill_level.Given as goal

abbrev pub invariant-loop-j : goal.invariant-loop-j
invariant-loop-j g l = GivesAll g.V.Values.giving l.initial.v l.v (each_below l.j (level_value l.y l.k)) × (g.V.Values.giving.broken l.v ≡ false)
