use Rattle.tv_rows.specs.RowSum.{row_sum_of}
use Rattle.tv_rows.proofs.row_sums.row_sum.Goals as goal

pub returns : goal.returns
unfolding row_sum_of
returns g c = record { emits = rw c.number.ensures at c.gated.ensures.emits }
