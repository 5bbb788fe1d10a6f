use Rattle.tv_block.proofs.constraints.registers.Goals as goal

pub returns-clause-emits : goal.returns-clause-emits
returns-clause-emits g c =
    rw (c.opcode_wire.ensures, c.opcode_wire-2.ensures, c.dest.ensures, c.source.ensures, c.register.ensures) at c.read_triple.ensures.emits
