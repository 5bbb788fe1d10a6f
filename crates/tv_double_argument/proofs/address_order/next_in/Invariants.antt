use Rattle.tv_double_argument.proofs.Written.{IsPlaced}
use Rattle.tv_double_argument.proofs.address_order.next_in.Given as goal

abbrev pub invariant-loop-j : goal.invariant-loop-j
invariant-loop-j l = IsPlaced l.order l.j l.found.items
