use Rattle.tv_core.proofs.Common.{sequence, EmitsAll}
use Rattle.tv_regs.specs.Reads.{read_turn}
use Rattle.tv_regs.proofs.reads.read_reg.Given as goal

abbrev pub invariant-loop-i : goal.invariant-loop-i
invariant-loop-i g l = record {
  emits : EmitsAll g.S.Sink.meaning l.initial.s l.s (sequence l.i (read_turn l.w l.sel l.regs)) 0 l.i tt;
}
