use Rattle.tv_core.proofs.Common.{◌+◌}
use Rattle.tv_bits.proofs.BitNumbers.{scaled-bits-once}
use Rattle.tv_parts.specs.Memory.{byte_of_pair}
use Rattle.tv_parts.proofs.memory.byte_of_pair.Goals as goal

pub returns-clause-emits : goal.returns-clause-emits
unfolding byte_of_pair
returns-clause-emits g c = rw (
  c.set_wire.ensures.terms,
  c.plus_to-2.ensures.terms,
  c.plus_to.ensures.terms,
  c.clear.ensures,
  c.plus_to-3.ensures.terms,
  c.clear-2.ensures,
  c.neg-minus.ensures,
  c.offset.ensures,
  scaled-bits-once (c.args.bits + 8) 8,
) at c.accumulated.ensures.emits
