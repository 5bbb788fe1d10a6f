use Rattle.tv_results.proofs.PcFills.{pc_sound, pc_complete, pc_sizes, pc_costs}
use Rattle.tv_results.proofs.pc.pc_laws.Goals as goal

pub returns : goal.returns
returns c = record { sound = pc_sound; complete = pc_complete; sizes = pc_sizes; costs = pc_costs }
