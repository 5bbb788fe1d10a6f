use Rattle.tv_regs.proofs.ReadLaws.{read_reg_sound, read_reg_complete, read_reg_sizes}
use Rattle.tv_regs.proofs.reads.read_reg_laws.Goals as goal

pub returns : goal.returns
returns c = record { sound = read_reg_sound; complete = read_reg_complete; sizes = read_reg_sizes }
