use Rattle.tv_arithmetic.proofs.arithmetic.put_right.Goals as goal

pub returns : goal.returns
returns g c = record { emits = rw c.set_opcodes.ensures.terms at c.right_shift.ensures.emits }
