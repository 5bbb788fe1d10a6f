use Rattle.tv_shift.proofs.ShiftLaws.{shift_sound, shift_complete}
use Rattle.tv_shift.proofs.ShiftSizes.{shift_sizes}
use Rattle.tv_shift.proofs.shifts.shift_laws.Goals as goal

pub returns : goal.returns
returns c = record { sound = shift_sound; complete = shift_complete; sizes = shift_sizes }
