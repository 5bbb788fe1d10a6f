use Rattle.std.proofs.Common.{◌≡◌, take}
use Rattle.tv_core.specs.Constraints.{value}
use Rattle.tv_core.proofs.combination.Lc.value_in.Given as goal

abbrev pub invariant-loop-coefficient : goal.invariant-loop-coefficient
invariant-loop-coefficient l = l.sum ≡ value (take l.coefficient-index l.coefficient-items) l.z
