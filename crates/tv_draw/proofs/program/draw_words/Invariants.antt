use Rattle.tv_core.proofs.Common.{◌≡◌}
use Rattle.tv_draw.specs.Program.{generator_state, words_drawn}
use Rattle.tv_draw.proofs.program.draw_words.Given as goal

abbrev pub invariant-loop : goal.invariant-loop
invariant-loop l = record {
  state : l.rng ≡ generator_state l.initial.rng l.counter;
  words : l.words ≡ words_drawn l.initial.rng 0 l.counter;
}
