use Rattle.std.proofs.Common.{arith}
use Rattle.std.proofs.lemmas.Grind.{common_steps}
use Rattle.tv_asm.specs.Operand.{number}
use Rattle.tv_asm.proofs.operand.number.Goals as goal

pub returns-in-48 : goal.returns-in-48
unfolding number
returns-in-48 g c = grind (arith, common_steps)

pub returns-in_default : goal.returns-in_default
unfolding number
returns-in_default g c = grind (arith, common_steps)
