-- What a system counts.
use Rattle.std.specs.Prelude.{ℕ, List, Result, Ok}
use Rattle.tv_core.specs.Meanings.{system_counts}
use Rattle.tv_core.specs.declared.lines.Counts.{Counts}
use Rattle.tv_container.specs.Places.{Fault, ◌>>=◌}
use Rattle.tv_r1cs_read.specs.R1cs.{r1cs_system}

-- the counts of the system that a file holds, or the file's first fault
unfoldable pub survey_of : List ℕ → Result Counts Fault
survey_of file = do
  system ← r1cs_system file
  Ok (system_counts system)
