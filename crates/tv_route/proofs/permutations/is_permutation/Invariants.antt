use Rattle.tv_route.proofs.Seen.{IsSeen}
use Rattle.tv_route.proofs.permutations.is_permutation.Given as goal

abbrev pub invariant-loop-i : goal.invariant-loop-i
invariant-loop-i l = IsSeen l.p l.i l.seen.items
