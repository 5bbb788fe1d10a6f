use Rattle.tv_core.proofs.Common.{sequence, EmitsAll}
use Rattle.tv_regs.specs.Writes.{write_turn}
use Rattle.tv_regs.proofs.writes.write_reg.Given as goal

abbrev pub invariant-loop-i : goal.invariant-loop-i
invariant-loop-i g l = record {
  emits : EmitsAll g.S.Sink.meaning l.initial.s l.s (sequence l.i (write_turn l.v l.sel l.regs)) l.i l.i tt;
}
