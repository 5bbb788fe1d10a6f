use Rattle.tv_parts.proofs.memory.put_change.Goals as goal

pub returns-clause-emits : goal.returns-clause-emits
returns-clause-emits g c = rw (c.set_power.ensures.terms, c.plus.ensures.terms, c.set_number.ensures.terms, c.neg.ensures) at c.times_by.ensures.emits
