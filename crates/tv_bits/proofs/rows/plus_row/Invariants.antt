use Rattle.tv_core.proofs.Common.{◌≡◌, ◌++◌}
use Rattle.tv_bits.specs.OneHot.{row_sum}
use Rattle.tv_bits.proofs.rows.plus_row.Given as goal

abbrev pub invariant-loop-i : goal.invariant-loop-i
invariant-loop-i l = l.lc ≡ l.initial.lc ++ row_sum l.first l.i
