use Rattle.tv_bits.proofs.zeros.zero.Goals as goal

pub returns-clause-emits : goal.returns-clause-emits
returns-clause-emits g c = rw (c.plus_terms.ensures.terms, c.new-scratch.ensures.a, c.terms.ensures.terms) at c.zero_by.ensures.emits
