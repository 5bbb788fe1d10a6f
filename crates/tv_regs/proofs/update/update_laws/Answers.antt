use Rattle.tv_regs.proofs.UpdateLaws.{update_sound, update_complete, update_sizes, update_costs}
use Rattle.tv_regs.proofs.update.update_laws.Goals as goal

pub returns : goal.returns
returns c = record { sound = update_sound; complete = update_complete; sizes = update_sizes; costs = update_costs }
