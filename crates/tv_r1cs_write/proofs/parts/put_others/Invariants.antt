use Rattle.tv_container.specs.Taking.{TakesBytes}
use Rattle.tv_r1cs_write.specs.Bytes.{label_bytes, others}
use Rattle.tv_r1cs_write.proofs.Others.{AreAhead}
use Rattle.tv_r1cs_write.proofs.parts.put_others.Given as goal

abbrev pub invariant-loop-label : goal.invariant-loop-label
invariant-loop-label g l = record {
  took : TakesBytes l.name (g.D.Files.seen l.fn.files) l.fn.pending (g.D.Files.seen l.files) l.pending (label_bytes (others l.label l.but));
  ahead : AreAhead l.label l.but l.next;
}
