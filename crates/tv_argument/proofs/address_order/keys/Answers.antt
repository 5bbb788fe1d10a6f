use Rattle.tv_core.proofs.Common.{rules, arith, common_steps}
use Rattle.tv_argument.proofs.address_order.keys.Goals as goal

pub offset_bounds-pairs-pair-index : goal.offset_bounds-pairs-pair-index
offset_bounds-pairs-pair-index c = search (rules, c.well_formed)

pub loop-pair-preserved : goal.loop-pair-preserved
loop-pair-preserved c = grind (arith, common_steps)

pub returns : goal.returns
returns c = grind (arith, common_steps)
