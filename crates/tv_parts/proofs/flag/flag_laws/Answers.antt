use Rattle.tv_parts.proofs.FlagFills.{flag_sound, flag_complete, flag_sizes, flag_costs}
use Rattle.tv_parts.proofs.flag.flag_laws.Goals as goal

pub returns : goal.returns
returns c = record { sound = flag_sound; complete = flag_complete; sizes = flag_sizes; costs = flag_costs }
