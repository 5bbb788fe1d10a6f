use Rattle.tv_core.proofs.Common.{◌+◌, ◌*◌, sequence, EmitsAll}
use Rattle.tv_benes.specs.Network.{switch_of}
use Rattle.tv_benes.specs.Places.{item_in}
use Rattle.tv_benes.proofs.columns.column.Given as goal

abbrev pub invariant-loop-j : goal.invariant-loop-j
invariant-loop-j g l = record {
  emits : EmitsAll g.S.Sink.meaning l.initial.s l.s
      (sequence l.j (λ j. switch_of (item_in g.I.Inputs.pair l.items (2 * j)) (item_in g.I.Inputs.pair l.items (2 * j + 1)))) (5 * l.j) (5 * l.j) tt;
}
