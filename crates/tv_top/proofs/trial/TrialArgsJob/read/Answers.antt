use Rattle.tv_core.proofs.Common.{arith, common_steps}
use Rattle.tv_top.proofs.trial.TrialArgsJob.read.Goals as goal

pub returns-in_default-2 : goal.returns-in_default-2
returns-in_default-2 c = grind (arith, common_steps)

pub returns-in_err-of : goal.returns-in_err-of
returns-in_err-of c = grind (arith, common_steps)

pub returns : goal.returns
returns c = grind (arith, common_steps)
