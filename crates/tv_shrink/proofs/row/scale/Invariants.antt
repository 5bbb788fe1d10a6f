use Rattle.tv_core.proofs.Common.{◌≡◌, ◌++◌, take, drop, scaled}
use Rattle.tv_shrink.proofs.row.scale.Given as goal

abbrev pub invariant-loop-term : goal.invariant-loop-term
invariant-loop-term l = l.terms ≡ scaled l.factor (take l.term-index l.initial.terms) ++ drop l.term-index l.initial.terms
