-- What a filling is good for.
use Rattle.tv_stages.specs.declared.nets.Net.{Net}
use Rattle.tv_block.specs.Block.{block_of}
use Rattle.tv_fill.specs.Filled.{Filled, IsFilling}
use Rattle.tv_layout.specs.Places.{WithinLimits, runs_like}
use Rattle.tv_layout.specs.RunInputs.{RunInput}
use Rattle.tv_layout.specs.Values.{IsFill}
use Rattle.tv_step.specs.Range.{AreWords}

-- the values of a filling for a run satisfy the run's system and extend its answer and the tape, and the words that they
-- take are those that the run reads
abbrev pub FillingsSatisfy : Type 0
FillingsSatisfy = (net : Net) (run : RunInput) (filling : Filled) → WithinLimits (runs_like run.width run.image run.tape run.t)
    → AreWords run.width run.tape → AreWords run.width run.aux → IsFilling net run filling → IsFill net (block_of run.width) run filling.answer filling.values
