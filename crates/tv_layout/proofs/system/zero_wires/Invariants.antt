use Rattle.tv_core.proofs.Common.{sequence, EmitsAll}
use Rattle.tv_layout.specs.Layout.{zero_wire_of}
use Rattle.tv_layout.proofs.system.zero_wires.Given as goal

abbrev pub invariant-loop-turn : goal.invariant-loop-turn
invariant-loop-turn g l = record {
  emits : EmitsAll g.S.Sink.meaning l.initial.s l.s (sequence l._turn (λ _. zero_wire_of)) l._turn l._turn tt;
}
