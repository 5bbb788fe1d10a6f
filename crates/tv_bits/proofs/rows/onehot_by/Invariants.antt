use Rattle.tv_core.proofs.Common.{sequence, EmitsAll}
use Rattle.tv_bits.specs.Bits.{bits_combination}
use Rattle.tv_bits.specs.OneHot.{mark_of}
use Rattle.tv_bits.proofs.rows.onehot_by.Given as goal

abbrev pub invariant-loop-i : goal.invariant-loop-i
invariant-loop-i g l = record {
  emits : EmitsAll g.S.Sink.meaning l.initial.s l.s (sequence l.i (mark_of (bits_combination l.x.first l.x.n))) l.i l.i tt;
}
