use Rattle.tv_lines.proofs.FirstLaws.{first_line_sound, first_line_complete, first_line_fill}
use Rattle.tv_lines.proofs.sorted_pairs.first_line_laws.Goals as goal

pub returns : goal.returns
returns c = record { sound = first_line_sound; complete = first_line_complete; sizes = first_line_fill }
