use Rattle.tv_core.proofs.Common.{sequence, EmitsAll}
use Rattle.tv_regs.specs.Triple.{passes_turn}
use Rattle.tv_regs.proofs.triple.new_curve.Given as goal

abbrev pub invariant-loop-i : goal.invariant-loop-i
invariant-loop-i g l = record {
  emits : EmitsAll g.S.Sink.meaning l.initial.s l.s (sequence l.i (passes_turn l.roots l.curve l.regs)) l.i l.i tt;
}
