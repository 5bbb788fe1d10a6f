use Rattle.tv_core.proofs.Common.{arith, common_steps}
use Rattle.tv_plan.proofs.disasm.width_word.Goals as goal

pub returns-in_default : goal.returns-in_default
returns-in_default c = grind (arith, common_steps)
