use Rattle.tv_core.proofs.Common.{arith, common_steps}
use Rattle.tv_plan.proofs.asm.AsmArgsJob.read.Goals as goal

pub returns-in_default : goal.returns-in_default
returns-in_default c = grind (arith, common_steps)

pub returns-in_err-keep_apart : goal.returns-in_err-keep_apart
returns-in_err-keep_apart c = grind (arith, common_steps)

pub returns : goal.returns
returns c = grind (arith, common_steps)
