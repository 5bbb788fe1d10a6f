use Rattle.tv_bits.specs.Bit.{bit_of}
use Rattle.tv_bits.proofs.booleans.bit_by.Goals as goal

pub returns : goal.returns
unfolding bit_of
returns g c = record { emits = rw c.set_wire.ensures.terms at c.put.ensures.emits }
