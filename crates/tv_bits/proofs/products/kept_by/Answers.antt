use Rattle.tv_bits.proofs.products.kept_by.Goals as goal

pub returns-clause-emits : goal.returns-clause-emits
returns-clause-emits g c = rw c.set_wire.ensures.terms at c.times_by.ensures.emits
