use Rattle.tv_parts.proofs.memory.put_after.Goals as goal

pub returns-clause-emits : goal.returns-clause-emits
returns-clause-emits g c =
    let sum = rw (c.set_wire.ensures.terms, c.opcode_wire.ensures, c.set_difference.ensures.terms) at c.accumulated.ensures.emits in
    rw (c.plus.ensures.terms, c.set_minus.ensures.terms, c.neg.ensures) at sum
