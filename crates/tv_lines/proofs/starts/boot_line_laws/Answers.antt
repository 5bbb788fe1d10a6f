use Rattle.tv_lines.proofs.StartsLaws.{boot_line_sound, boot_line_complete, boot_line_sizes}
use Rattle.tv_lines.proofs.starts.boot_line_laws.Goals as goal

pub returns : goal.returns
returns c = record { sound = boot_line_sound; complete = boot_line_complete; sizes = boot_line_sizes }
