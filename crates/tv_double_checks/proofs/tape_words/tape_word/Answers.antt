use Rattle.tv_double_checks.specs.Tape.{tape_word_of}
use Rattle.tv_double_checks.proofs.tape_words.tape_word.Goals as goal

pub returns : goal.returns
unfolding tape_word_of
returns g c = record {
  emits = rw (c.set_cells_after.ensures.terms, c.terms.ensures.terms, c.set_cell_difference.ensures.terms, c.terms-2.ensures.terms, c.clear.ensures)
      at c.put.ensures.emits;
}
