use Rattle.tv_inputs.proofs.operand.put_word.Goals as goal

pub returns-clause-emits : goal.returns-clause-emits
returns-clause-emits g c = rw (c.set_wire.ensures.terms, c.set_difference.ensures.terms, c.set_minus.ensures.terms) at c.accumulated.ensures.emits
