use Rattle.tv_inputs.proofs.AccumulationLaws.{accumulated_sound, accumulated_complete, accumulated_sizes}
use Rattle.tv_inputs.proofs.accumulation.accumulated_laws.Goals as goal

pub returns : goal.returns
returns c = record { sound = accumulated_sound; complete = accumulated_complete; sizes = accumulated_sizes }
