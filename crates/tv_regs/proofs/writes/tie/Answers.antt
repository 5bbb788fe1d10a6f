use Rattle.tv_regs.specs.Writes.{tie_of}
use Rattle.tv_regs.proofs.writes.tie.Goals as goal

pub returns : goal.returns
unfolding tie_of
returns g c = record {
  emits =
      rw (
        c.minus-2.ensures.terms,
        c.plus.ensures.terms,
        c.neg.ensures,
        c.plus_row-2.ensures.terms,
        c.plus_terms.ensures.terms,
        c.terms.ensures.terms,
        c.clear-2.ensures,
        c.minus.ensures.terms,
        c.plus_row.ensures.terms,
        c.clear.ensures,
        c.set_sum.ensures.terms,
        c.set_wire.ensures.terms,
      ) at c.put.ensures.emits;
}
