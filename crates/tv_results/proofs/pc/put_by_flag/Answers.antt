use Rattle.tv_results.proofs.pc.put_by_flag.Goals as goal

pub returns-clause-emits : goal.returns-clause-emits
returns-clause-emits g c =
    rw (c.set_wire.ensures.terms, c.set_difference.ensures.terms, c.opcode_wire.ensures, c.opcode_wire-2.ensures) at c.times_by.ensures.emits
