use Rattle.tv_rows.proofs.PowerLaws.{shift_power_sound, shift_power_complete, shift_power_sizes, shift_power_cost_laws}
use Rattle.tv_rows.proofs.powers.shift_power_laws.Goals as goal

pub returns : goal.returns
returns c = record { sound = shift_power_sound; complete = shift_power_complete; sizes = shift_power_sizes; costs = shift_power_cost_laws }
