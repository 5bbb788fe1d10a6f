use Rattle.tv_parts.proofs.flag.put_shifted.Goals as goal

pub returns-clause-emits : goal.returns-clause-emits
returns-clause-emits g c = rw (c.set_wire.ensures.terms, c.set_rise.ensures.terms) at c.times_by.ensures.emits
