use Rattle.tv_regs.proofs.WriteLaws.{write_reg_sound, write_reg_complete, write_reg_sizes}
use Rattle.tv_regs.proofs.writes.write_reg_laws.Goals as goal

pub returns : goal.returns
returns c = record { sound = write_reg_sound; complete = write_reg_complete; sizes = write_reg_sizes }
