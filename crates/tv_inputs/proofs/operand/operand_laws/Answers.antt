use Rattle.tv_inputs.proofs.OperandLaws.{operand_sound, operand_complete, operand_sizes, operand_cost_laws}
use Rattle.tv_inputs.proofs.operand.operand_laws.Goals as goal

pub returns : goal.returns
returns c = record { sound = operand_sound; complete = operand_complete; sizes = operand_sizes; costs = operand_cost_laws }
