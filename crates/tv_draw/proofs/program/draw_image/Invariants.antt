use Rattle.tv_core.proofs.Common.{◌≡◌, joined_below}
use Rattle.tv_draw.specs.Program.{generator_state, word_at, instr_in}
use Rattle.tv_isa.specs.Instruction.{encode}
use Rattle.tv_draw.proofs.program.draw_image.Given as goal

abbrev pub invariant-loop : goal.invariant-loop
invariant-loop l = record {
  state : l.rng ≡ generator_state l.initial.rng l.counter;
  words : l.words ≡ joined_below l.counter (λ i. encode 32 (instr_in (word_at l.initial.rng i)));
}
