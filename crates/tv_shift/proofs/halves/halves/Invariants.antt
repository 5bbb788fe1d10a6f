use Rattle.tv_core.proofs.Common.{sequence, EmitsAll}
use Rattle.tv_shift.specs.Halves.{half_bit_of}
use Rattle.tv_shift.proofs.halves.halves.Given as goal

abbrev pub invariant-loop-i : goal.invariant-loop-i
invariant-loop-i g l = record {
  emits : EmitsAll g.S.Sink.meaning l.initial.s l.s (sequence l.i (half_bit_of l.n l.b l.word)) l.i l.i tt;
}
