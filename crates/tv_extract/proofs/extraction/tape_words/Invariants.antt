use Rattle.tv_core.proofs.Common.{◌≡◌, Ok, range_with_len}
use Rattle.tv_layout.specs.Places.{tape_at}
use Rattle.tv_extract.specs.Extraction.{words_at}
use Rattle.tv_extract.proofs.extraction.tape_words.Given as goal

abbrev pub invariant-loop-i : goal.invariant-loop-i
invariant-loop-i g l = words_at g.row.W l.values (range_with_len tape_at l.i) ≡ Ok l.words
