use Rattle.std.proofs.Common.{◌≡◌, ◌++◌, take}
use Rattle.tv_core.specs.Combinations.{scaled}
use Rattle.tv_core.specs.Normal.{normal}
use Rattle.tv_core.proofs.combination.Lc.add_scaled.Given as goal

abbrev pub invariant-loop-coefficient : goal.invariant-loop-coefficient
invariant-loop-coefficient l = l.self ≡ normal (l.initial.self ++ scaled l.factor (take l.coefficient-index l.terms))
