use Rattle.tv_core.proofs.Common.{sequence, EmitsAll}
use Rattle.tv_shift.specs.Thermometer.{products_below, bit_level_of}
use Rattle.tv_shift.proofs.thermometer.thermometer.Given as goal

abbrev pub invariant-loop-i : goal.invariant-loop-i
invariant-loop-i g l = record {
  emits : EmitsAll g.S.Sink.meaning l.initial.s l.s (sequence l.i (bit_level_of l.marks.bits l.marks.products)) (products_below l.i) (products_below l.i) tt;
}
