-- What an extracted run is, and that each satisfying assignment has one.
use Rattle.std.specs.Prelude.{◌≡◌, ℕ, ◌≤◌, List, length, slice_index, Ok}
use Rattle.tv_stages.specs.declared.nets.Net.{Net}
use Rattle.tv_block.specs.Block.{block_of}
use Rattle.tv_core.specs.Constraints.{Sat}
use Rattle.tv_core.specs.Laws.{HasFrom}
use Rattle.tv_step.specs.Machine.{start, end_of}
use Rattle.tv_step.specs.Range.{AreWords}
use Rattle.tv_step.specs.Reads.{Reads}
use Rattle.tv_step.specs.declared.end.End.TheVariants as ends
use Rattle.tv_layout.specs.Layout.{taken_of}
use Rattle.tv_layout.specs.Places.{WithinLimits, tape_at, ProgramRuns}
use Rattle.tv_layout.specs.Systems.{system_of}
use Rattle.tv_extract.specs.Extraction.{run_in}
use Rattle.tv_extract.specs.declared.run.Run.{Run}

-- A run of an assignment: its answer stands at wire 1, its tape at the n wires after it, and its auxiliary tape is the
-- words that the steps take; all are words, and on them the machine answers so at this step.
pub record IsRunOf (runs : ProgramRuns) (z : List ℕ) (run : Run) : Type 0 where
  pub answer : run.answer ≡ slice_index z 1
  pub many : length run.tape ≡ runs.n
  pub tape : HasFrom z tape_at run.tape
  pub aux : run.aux ≡ taken_of (block_of runs.width) runs z
  pub tape_words : AreWords runs.width run.tape
  pub aux_words : AreWords runs.width run.aux
  pub answers : end_of runs.width runs.t (start runs.width runs.image run.tape run.aux) ≡ ends.Answer run.answer run.step
  pub within : run.step ≤ runs.t

-- what is extracted is a run of the assignment
abbrev pub ExtractedIsRun : Type 0
ExtractedIsRun = (net : Net) (runs : ProgramRuns) (z : List ℕ) (run : Run) → run_in net runs z ≡ Ok run → IsRunOf runs z run

-- from each satisfying assignment a run is extracted, and it reads all of its auxiliary tape
pub record HasRunIn (net : Net) (runs : ProgramRuns) (z : List ℕ) : Type 0 where
  pub run : Run
  pub is : run_in net runs z ≡ Ok run
  pub reads : Reads runs.width runs.image run.tape run.aux runs.t ≡ run.aux

abbrev pub SatisfyingHaveRuns : Type 0
SatisfyingHaveRuns = (net : Net) (runs : ProgramRuns) (z : List ℕ) → WithinLimits runs → Sat (system_of net runs) z → HasRunIn net runs z
