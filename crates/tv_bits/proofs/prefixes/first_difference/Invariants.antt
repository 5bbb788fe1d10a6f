use Rattle.tv_core.proofs.Common.{◌≡◌}
use Rattle.tv_bits.specs.Order.{first_difference}
use Rattle.tv_bits.proofs.prefixes.first_difference.Given as goal

abbrev pub invariant-loop-i : goal.invariant-loop-i
invariant-loop-i l = l.difference ≡ first_difference l.chunk l.i l.x l.y
