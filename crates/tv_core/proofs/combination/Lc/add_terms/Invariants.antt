use Rattle.std.proofs.Common.{◌≡◌, ◌++◌, take}
use Rattle.tv_core.specs.Normal.{normal}
use Rattle.tv_core.proofs.combination.Lc.add_terms.Given as goal

abbrev pub invariant-loop-coefficient : goal.invariant-loop-coefficient
invariant-loop-coefficient l = l.self ≡ normal (l.initial.self ++ take l.coefficient-index l.terms)
