use Rattle.tv_parts.proofs.written.put_on.Goals as goal

pub returns-clause-emits : goal.returns-clause-emits
returns-clause-emits g c =
    rw (c.plus_opcodes.ensures.terms, c.clear.ensures, c.neg.ensures, c.set_wire.ensures.terms, c.set_wire-2.ensures.terms, c.opcode_wire.ensures)
    at c.accumulated.ensures.emits
