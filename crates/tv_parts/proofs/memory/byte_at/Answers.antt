use native.Mathlib.Omega.{arith}
use Rattle.tv_parts.specs.Memory.{byte_at_of}
use Rattle.tv_parts.proofs.memory.byte_at.Goals as goal

pub returns-then-this-eq16-clause-emits : goal.returns-then-this-eq16-clause-emits
unfolding byte_at_of
returns-then-this-eq16-clause-emits g c = grind (arith, c.byte_of_pair.ensures.emits)

pub returns-else-this-eq16-clause-emits : goal.returns-else-this-eq16-clause-emits
unfolding byte_at_of
returns-else-this-eq16-clause-emits g c = grind (arith, c.byte_of_four.ensures.emits)
