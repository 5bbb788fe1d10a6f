use Rattle.tv_regs.proofs.TripleLaws.{triple_sound, triple_complete, triple_sizes, triple_costs}
use Rattle.tv_regs.proofs.triple.triple_laws.Goals as goal

pub returns : goal.returns
returns c = record { sound = triple_sound; complete = triple_complete; sizes = triple_sizes; costs = triple_costs }
