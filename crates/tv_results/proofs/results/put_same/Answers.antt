use Rattle.tv_results.proofs.results.put_same.Goals as goal

pub returns : goal.returns
returns g c = record { emits = rw (c.set_opcodes.ensures.terms, c.set_rise.ensures.terms, c.clear.ensures) at c.put.ensures.emits }
