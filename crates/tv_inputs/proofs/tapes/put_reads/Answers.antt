use Rattle.tv_inputs.proofs.tapes.put_reads.Goals as goal

pub returns-clause-emits : goal.returns-clause-emits
returns-clause-emits g c = rw (c.plus_upper.ensures.terms, c.clear.ensures, c.opcode_wire.ensures) at c.if_zero.ensures.emits
