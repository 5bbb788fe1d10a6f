use Rattle.tv_rows.proofs.RowDifferenceLaws.{row_difference_sound, row_difference_complete, row_difference_sizes, row_difference_cost_laws}
use Rattle.tv_rows.proofs.RowDifferenceNumbers.{difference_equal}
use Rattle.tv_rows.proofs.row_differences.row_difference_laws.Goals as goal

pub returns : goal.returns
returns c = record {
  sound = row_difference_sound;
  equal = difference_equal;
  complete = row_difference_complete;
  sizes = row_difference_sizes;
  costs = row_difference_cost_laws;
}
