use Rattle.tv_core.proofs.Common.{◌≡◌, Ok}
use Rattle.tv_block.specs.Block.{block_of}
use Rattle.tv_extract.specs.Extraction.{words_at}
use Rattle.tv_layout.specs.Layout.{taken_wires}
use Rattle.tv_layout.specs.Places.{runs_of}
use Rattle.tv_extract.proofs.extraction.taken_words.Given as goal

abbrev pub invariant-loop-step : goal.invariant-loop-step
invariant-loop-step g l = words_at g.row.W l.values (taken_wires (block_of g.row.W) (runs_of g.row.W l.image l.n l.step) l.values) ≡ Ok l.words
