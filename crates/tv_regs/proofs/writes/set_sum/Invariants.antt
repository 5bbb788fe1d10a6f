use Rattle.tv_core.proofs.Common.{◌≡◌, get_or, each_below}
use Rattle.tv_regs.proofs.writes.set_sum.Given as goal

abbrev pub invariant-loop-i : goal.invariant-loop-i
invariant-loop-i l = l.lc ≡ each_below l.i (λ i. (1, get_or l.regs i 0))
