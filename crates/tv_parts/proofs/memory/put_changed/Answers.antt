use Rattle.tv_parts.proofs.memory.put_changed.Goals as goal

pub returns-clause-emits : goal.returns-clause-emits
returns-clause-emits g c = rw (c.set_wire.ensures.terms, c.set_wire-2.ensures.terms, c.opcode_wire.ensures) at c.times_by.ensures.emits
