use Rattle.tv_core.proofs.Common.{arith, common_steps}
use Rattle.tv_plan.proofs.check.CheckArgsJob.read.Goals as goal

pub returns-in_default : goal.returns-in_default
returns-in_default c = grind (arith, common_steps)

pub returns : goal.returns
returns c = grind (arith, common_steps)
