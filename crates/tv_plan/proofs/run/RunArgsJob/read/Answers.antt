use Rattle.tv_core.proofs.Common.{arith, common_steps}
use Rattle.tv_plan.proofs.run.RunArgsJob.read.Goals as goal

pub returns-in_default : goal.returns-in_default
returns-in_default c = grind (arith, common_steps)

pub returns-in_err-t : goal.returns-in_err-t
returns-in_err-t c = grind (arith, common_steps)

pub returns-in_err-of : goal.returns-in_err-of
returns-in_err-of c = grind (arith, common_steps)

pub returns : goal.returns
returns c = grind (arith, common_steps)
