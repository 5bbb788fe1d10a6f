use Rattle.tv_core.proofs.Common.{◌+◌, ◌*◌, sequence, EmitsAll}
use Rattle.tv_layout.specs.Layout.{word_of}
use Rattle.tv_layout.proofs.system.words.Given as goal

abbrev pub invariant-loop-i : goal.invariant-loop-i
invariant-loop-i g l = record {
  emits : EmitsAll g.S.Sink.meaning l.initial.s l.s (sequence l.i (word_of g.row.W l.fn.first)) (l.i * g.row.W) (l.i * (g.row.W + 1)) tt;
}
