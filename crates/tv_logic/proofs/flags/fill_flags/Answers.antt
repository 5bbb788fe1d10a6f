use Rattle.tv_logic.proofs.flags.fill_flags.Goals as goal

pub returns-clause-gives : goal.returns-clause-gives
returns-clause-gives g c = rw c.flag_values.ensures at c.give_values.ensures.gives
