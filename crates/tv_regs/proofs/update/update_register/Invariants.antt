use Rattle.tv_core.proofs.Common.{sequence, EmitsAll}
use Rattle.tv_regs.specs.Update.{stays_turn}
use Rattle.tv_regs.proofs.update.update_register.Given as goal

abbrev pub invariant-loop-i : goal.invariant-loop-i
invariant-loop-i g l = record {
  emits : EmitsAll g.S.Sink.meaning l.initial.s l.s (sequence l.i (stays_turn l.write.dest l.regs)) l.i l.i tt;
}
