use Rattle.tv_muldiv.proofs.quotients.gate.Goals as goal

pub returns-clause-emits : goal.returns-clause-emits
returns-clause-emits g c =
    rw (c.set_wire.ensures.terms, c.plus_to.ensures.terms, c.set_number.ensures.terms, c.requires.x_word.size, c.requires.made.quot.size)
    at c.times_by.ensures.emits
