use Rattle.tv_core.proofs.Common.{◌≡◌, false, slice_index, joined_below, GivesAll}
use Rattle.tv_bits.specs.Bits.{bits_values}
use Rattle.tv_fill.proofs.front.fill_bits_of_words.Given as goal

abbrev pub invariant-loop-word : goal.invariant-loop-word
invariant-loop-word g l = record {
  gives : GivesAll g.V.Values.giving l.initial.v l.v (joined_below l.word-index (λ i. bits_values (slice_index l.words i) g.row.W));
  whole : g.V.Values.giving.broken l.v ≡ false;
}
