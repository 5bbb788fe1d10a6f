use Rattle.tv_core.proofs.Common.{sequence, EmitsAll}
use Rattle.tv_bits.specs.Bits.{new_bit}
use Rattle.tv_bits.proofs.decomposition.new_bits_by.Given as goal

abbrev pub invariant-loop-turn : goal.invariant-loop-turn
invariant-loop-turn g l = record {
  emits : EmitsAll g.S.Sink.meaning l.initial.s l.s (sequence l._turn (λ _. new_bit)) l._turn l._turn tt;
}
