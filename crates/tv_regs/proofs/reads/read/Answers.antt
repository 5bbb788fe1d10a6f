use Rattle.tv_regs.specs.Reads.{read_of}
use Rattle.tv_regs.proofs.reads.read.Goals as goal

pub returns : goal.returns
unfolding read_of
returns g c = record { emits = rw (c.set_wire.ensures.terms, c.set_difference.ensures.terms, c.clear.ensures) at c.put.ensures.emits }
