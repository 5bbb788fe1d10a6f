use Rattle.tv_core.proofs.Common.{◌≡◌, ℕ, ◌+◌, ◌<◌, get_or, length}
use Rattle.tv_regs.proofs.writes.wires_from.Given as goal

abbrev pub invariant-loop-i : goal.invariant-loop-i
invariant-loop-i l = record { size : length l.made ≡ 16; wires : (j : ℕ) → j < l.i → get_or l.made j 0 ≡ l.first + j }
