use Rattle.tv_rows.proofs.DigitLaws.{bitwise_sound, bitwise_complete, bitwise_sizes, bitwise_cost_laws}
use Rattle.tv_rows.proofs.digits.bitwise_laws.Goals as goal

pub returns : goal.returns
returns c = record { sound = bitwise_sound; complete = bitwise_complete; sizes = bitwise_sizes; costs = bitwise_cost_laws }
