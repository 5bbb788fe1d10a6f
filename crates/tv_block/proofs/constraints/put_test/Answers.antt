use Rattle.tv_block.proofs.constraints.put_test.Goals as goal

pub returns : goal.returns
returns g c = record { emits = rw (c.terms.ensures.terms, c.set_sign.ensures.terms) at c.zero_sign.ensures.emits }
