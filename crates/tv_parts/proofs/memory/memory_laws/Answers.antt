use Rattle.tv_parts.proofs.MemoryFills.{memory_sound, memory_complete, memory_sizes, memory_costs}
use Rattle.tv_parts.proofs.memory.memory_laws.Goals as goal

pub returns : goal.returns
returns c = record { sound = memory_sound; complete = memory_complete; sizes = memory_sizes; costs = memory_costs }
