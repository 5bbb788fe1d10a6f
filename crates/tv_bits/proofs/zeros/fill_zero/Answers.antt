use Rattle.tv_bits.proofs.zeros.fill_zero.Goals as goal

pub returns-clause-gives : goal.returns-clause-gives
returns-clause-gives g c = rw c.zero_values.ensures at c.give_values.ensures.gives
