use Rattle.tv_core.proofs.Common.{sequence, EmitsAll}
use Rattle.tv_logic.specs.Ands.{new_and_pair_of}
use Rattle.tv_logic.proofs.ands.and_word.Given as goal

abbrev pub invariant-loop-i : goal.invariant-loop-i
invariant-loop-i g l = record {
  emits : EmitsAll g.S.Sink.meaning l.initial.s l.s (sequence l.i (new_and_pair_of g.row.W l.x l.y)) l.i l.i tt;
}
