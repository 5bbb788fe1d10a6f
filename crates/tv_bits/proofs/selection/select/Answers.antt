use Rattle.tv_bits.proofs.selection.select.Goals as goal

pub select_terms-requires : goal.select_terms-requires
select_terms-requires g c = rw (c.terms.ensures.terms, c.terms-2.ensures.terms) c.requires

pub returns-clause-emits : goal.returns-clause-emits
returns-clause-emits g c = rw (c.terms.ensures.terms, c.terms-2.ensures.terms) at c.select_terms.ensures.emits
