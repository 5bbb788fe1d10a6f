use Rattle.tv_double_checks.proofs.LastLaws.{last_line_sound, last_line_complete, last_line_sizes}
use Rattle.tv_double_checks.proofs.last_lines.last_line_laws.Goals as goal

pub returns : goal.returns
returns c = record { sound = last_line_sound; complete = last_line_complete; sizes = last_line_sizes }
