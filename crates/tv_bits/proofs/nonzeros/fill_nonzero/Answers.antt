use Rattle.tv_bits.proofs.nonzeros.fill_nonzero.Goals as goal

pub returns-clause-gives : goal.returns-clause-gives
returns-clause-gives g c = rw c.nonzero_values.ensures at c.give_values.ensures.gives
