use Rattle.tv_arithmetic.proofs.arithmetic.put_left.Goals as goal

pub returns : goal.returns
returns g c = record { emits = rw c.set_opcodes.ensures.terms at c.row_product.ensures.emits }
