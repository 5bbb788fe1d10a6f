use Rattle.tv_inputs.proofs.TapeFills.{tapes_filled, tapes_sizes, tapes_costs}
use Rattle.tv_inputs.proofs.TapeLaws.{tapes_sound}
use Rattle.tv_inputs.proofs.tapes.tapes_laws.Goals as goal

pub returns : goal.returns
returns c = record { sound = tapes_sound; complete = tapes_filled; sizes = tapes_sizes; costs = tapes_costs }
