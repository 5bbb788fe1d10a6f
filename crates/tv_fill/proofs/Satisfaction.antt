-- The values of a filling satisfy the system.
use Rattle.tv_core.proofs.Common.{sym, subst}
use Rattle.tv_block.specs.Block.{block_of}
use Rattle.tv_layout.proofs.Systems.{system_complete}
use Rattle.tv_layout.specs.Values.{IsFill}
use Rattle.tv_fill.specs.Laws.{FillingsSatisfy}

pub fillings_satisfy : FillingsSatisfy
fillings_satisfy net run filling fits tape_words aux_words is =
    subst (IsFill net (block_of run.width) run filling.answer) (sym is.values) (system_complete net run filling.answer fits tape_words aux_words is.answer)
