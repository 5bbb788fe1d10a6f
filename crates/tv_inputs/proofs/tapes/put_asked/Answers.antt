use Rattle.tv_inputs.proofs.tapes.put_asked.Goals as goal

pub returns : goal.returns
returns g c =
    let asked = rw (c.set_wire.ensures.terms, c.set_difference.ensures.terms, c.plus.ensures.terms, c.set_rise.ensures.terms) at c.put.ensures.emits in
    record { emits = asked }
