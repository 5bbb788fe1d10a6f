use Rattle.tv_logic.proofs.flags.zero_flag.Goals as goal

pub returns-clause-emits : goal.returns-clause-emits
returns-clause-emits g c = rw c.set_wire.ensures.terms at c.zero_by.ensures.emits
