use Rattle.tv_core.proofs.Common.{EmitsAll}
use Rattle.tv_shrink.specs.Emission.{wires_circuit}
use Rattle.tv_shrink.proofs.emission.make_wires.Given as goal

abbrev pub invariant-loop : goal.invariant-loop
invariant-loop g l = record {
  emits : EmitsAll g.S.Sink.meaning l.initial.s l.s (wires_circuit l.counter) l.counter 0 tt;
}
