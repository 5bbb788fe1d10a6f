use Rattle.tv_core.proofs.Common.{◌≡◌, ◌≤◌, ◌+◌, false, PutsAll}
use Rattle.tv_shrink.specs.Emission.{rows_circuit}
use Rattle.tv_shrink.proofs.emission.put_rows.Given as goal

abbrev pub invariant-loop-at : goal.invariant-loop-at
invariant-loop-at g l = record {
  puts : PutsAll g.S.Sink.meaning l.initial.s l.s (rows_circuit l.rows l.at) tt;
  wires : g.S.Sink.meaning.wires l.s ≡ g.S.Sink.meaning.wires l.initial.s;
  constraints : g.S.Sink.meaning.constraints l.s ≤ g.S.Sink.meaning.constraints l.initial.s + l.at;
  whole : g.S.Sink.meaning.broken l.s ≡ false;
}
