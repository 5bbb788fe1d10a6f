use Rattle.tv_rows.proofs.RowShiftLaws.{right_shift_sound, right_shift_complete, right_shift_sizes, right_shift_cost_laws}
use Rattle.tv_rows.proofs.row_shifts.right_shift_laws.Goals as goal

pub returns : goal.returns
returns c = record { sound = right_shift_sound; complete = right_shift_complete; sizes = right_shift_sizes; costs = right_shift_cost_laws }
