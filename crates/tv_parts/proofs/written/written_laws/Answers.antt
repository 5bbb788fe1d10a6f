use Rattle.tv_parts.proofs.WrittenFills.{written_sound, written_complete, written_sizes, written_costs}
use Rattle.tv_parts.proofs.written.written_laws.Goals as goal

pub returns : goal.returns
returns c = record { sound = written_sound; complete = written_complete; sizes = written_sizes; costs = written_costs }
