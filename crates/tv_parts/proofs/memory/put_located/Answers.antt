use Rattle.tv_parts.proofs.memory.put_located.Goals as goal

pub returns-clause-emits : goal.returns-clause-emits
returns-clause-emits g c =
    let p = rw (c.set_opcodes.ensures.terms, c.plus_upper.ensures.terms, c.plus.ensures.terms, c.clear.ensures) at c.accumulated.ensures.emits in
    rw (c.plus-2.ensures.terms, c.clear-2.ensures, c.neg-null.ensures, c.from.ensures) at p
