use Rattle.tv_results.proofs.results.put_signs.Goals as goal

pub returns : goal.returns
returns g c = record { emits = rw (c.set_wire.ensures.terms, c.opcode_wire.ensures, c.set_signs.ensures.terms, c.clear.ensures) at c.put.ensures.emits }
