use Rattle.tv_argument.proofs.Written.{IsPlaced}
use Rattle.tv_argument.proofs.address_order.previous.Given as goal

abbrev pub invariant-loop-j : goal.invariant-loop-j
invariant-loop-j l = IsPlaced l.order l.j l.found.items
