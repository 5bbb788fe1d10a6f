use Rattle.tv_core.proofs.Common.{arith, common_steps}
use Rattle.tv_double_argument.proofs.address_order.places_of.Goals as goal

pub loop-key-preserved : goal.loop-key-preserved
loop-key-preserved c = grind (arith, common_steps)

pub returns : goal.returns
returns c = grind (arith, common_steps)
