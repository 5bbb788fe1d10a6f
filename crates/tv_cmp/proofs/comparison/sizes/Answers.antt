use Rattle.tv_core.proofs.Common.{common_steps, arith}
use Rattle.tv_bits.proofs.OrderLaws.{first_difference-le}
use Rattle.tv_cmp.proofs.comparison.sizes.Goals as goal

pub overflow_add-above : goal.overflow_add-above
overflow_add-above g c = grind (arith, common_steps, first_difference-le)

pub returns-clause-size : goal.returns-clause-size
returns-clause-size g c = grind (arith, common_steps, first_difference-le)

pub returns-clause-signed : goal.returns-clause-signed
returns-clause-signed g c = grind (arith, common_steps, first_difference-le)
