use Rattle.tv_core.proofs.Common.{common_steps, arith}
use Rattle.tv_bits.proofs.BitNumbers.{scaled-bits-once}
use Rattle.tv_row_products.proofs.row_divisions.set_bits_less.Goals as goal

pub returns-clause-terms : goal.returns-clause-terms
returns-clause-terms g c = grind (arith, common_steps, scaled-bits-once)
