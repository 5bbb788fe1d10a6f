use Rattle.tv_core.proofs.Common.{common_steps, arith}
use Rattle.tv_bits.proofs.BitNumbers.{scaled-bits-once}
use Rattle.tv_bits.proofs.bit_wires.Bits.set_number.Goals as goal

pub returns-clause-terms : goal.returns-clause-terms
returns-clause-terms c = grind (arith, common_steps, scaled-bits-once)
