use Rattle.tv_inputs.proofs.operand.put_number.Goals as goal

pub returns : goal.returns
returns g c = record { emits = rw (c.set_number.ensures.terms, c.set_wire.ensures.terms, c.set_wire-2.ensures.terms) at c.put.ensures.emits }
