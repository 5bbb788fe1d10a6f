use Rattle.tv_arithmetic.proofs.arithmetic.put_difference.Goals as goal

pub returns : goal.returns
returns g c = record {
  emits =
      let p = rw (c.set_opcodes.ensures.terms, c.set_opcodes-2.ensures.terms, c.opcode_wire.ensures) at c.row_difference.ensures.emits in
      rw (c.opcode_wire-2.ensures, c.with_sign-left.ensures, c.with_sign-right.ensures) at p;
}
