use Rattle.tv_results.proofs.pc.put_wraps.Goals as goal

pub returns-clause-emits : goal.returns-clause-emits
returns-clause-emits g c = rw (c.set_from_last.ensures.terms, c.neg.ensures) at c.if_zero.ensures.emits
