use Rattle.tv_core.proofs.Common.{sequence, EmitsAll}
use Rattle.tv_shift.specs.Thermometer.{level_product_of}
use Rattle.tv_shift.proofs.thermometer.level.Given as goal

abbrev pub invariant-loop-j : goal.invariant-loop-j
invariant-loop-j g l = record {
  emits : EmitsAll g.S.Sink.meaning l.initial.s l.s (sequence l.j (level_product_of l.marks.bits l.marks.products l.k)) l.j l.j tt;
}
