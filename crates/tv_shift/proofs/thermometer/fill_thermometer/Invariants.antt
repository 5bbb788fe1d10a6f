use Rattle.tv_core.proofs.Common.{◌≡◌, false, GivesAll}
use Rattle.tv_shift.specs.Thermometer.{thermometer_values}
use Rattle.tv_shift.proofs.thermometer.fill_thermometer.Given as goal

abbrev pub invariant-loop-i : goal.invariant-loop-i
invariant-loop-i g l = GivesAll g.V.Values.giving l.initial.v l.v (thermometer_values l.i l.y) × (g.V.Values.giving.broken l.v ≡ false)
