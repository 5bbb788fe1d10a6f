use Rattle.tv_lines.proofs.StartsLaws.{least_line_sound, least_line_complete, least_line_sizes}
use Rattle.tv_lines.proofs.starts.least_line_laws.Goals as goal

pub returns : goal.returns
returns c = record { sound = least_line_sound; complete = least_line_complete; sizes = least_line_sizes }
