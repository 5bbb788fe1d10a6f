-- What the listing of a satisfying assignment is.
use Rattle.std.specs.Prelude.{◌≡◌, ℕ, ◌≤◌, List, length}
use Rattle.tv_stages.specs.declared.nets.Net.{Net}
use Rattle.tv_block.specs.Block.{block_of}
use Rattle.tv_core.specs.Constraints.{Sat}
use Rattle.tv_core.specs.Laws.{HasFrom}
use Rattle.tv_extract.specs.Runs.{HasRunIn}
use Rattle.tv_layout.specs.Layout.{taken_of}
use Rattle.tv_layout.specs.Places.{WithinLimits, tape_at, ProgramRuns, runs_like}
use Rattle.tv_layout.specs.RunInputs.{RunInput, run_on}
use Rattle.tv_layout.specs.Systems.{system_of}
use Rattle.tv_step.specs.Cells.{run_lines}
use Rattle.tv_step.specs.RunTrace.{IsTrace}
use Rattle.tv_step.specs.declared.lines.Trace.{Trace}
use Rattle.tv_listing.specs.Listing.{assigned_lines, traced_lines, text_by}
use Rattle.tv_listing.specs.declared.row.By.{By}

-- The lines that an assignment has up to a step are those of the run on a tape and on an auxiliary tape; and the
-- text of the run's trace is, byte for byte, that of the assignment.
pub record ListsRun (run : RunInput) (z : List ℕ) (step : ℕ) : Type 0 where
  pub lines : assigned_lines (runs_like run.width run.image run.tape run.t) step z ≡ run_lines run.width run.image run.tape run.aux step
  pub text : (trace : Trace) → IsTrace run.width run.image run.tape run.aux run.t trace
      → (by : By) → text_by by (traced_lines run.image run.tape step trace.lines)
      ≡ text_by by (assigned_lines (runs_like run.width run.image run.tape run.t) step z)

-- each assignment that satisfies a system lists the run on its own tapes, up to each step
abbrev pub ListingIsTrace : Type 0
ListingIsTrace = (net : Net) (runs : ProgramRuns) (x z : List ℕ) (step : ℕ) → WithinLimits runs → length x ≡ runs.n → step ≤ runs.t → HasFrom z tape_at x
    → Sat (system_of net runs) z → ListsRun (run_on runs.width runs.image x (taken_of (block_of runs.width) runs z) runs.t) z step

-- An assignment has a run, and its lines up to the step that answers are those of that run.
pub record HasListing (net : Net) (runs : ProgramRuns) (z : List ℕ) : Type 0 where
  pub has : HasRunIn net runs z
  pub lists : ListsRun (run_on runs.width runs.image has.run.tape has.run.aux runs.t) z has.run.step

-- each assignment that satisfies a system has
abbrev pub SatisfyingAreListed : Type 0
SatisfyingAreListed = (net : Net) (runs : ProgramRuns) (z : List ℕ) → WithinLimits runs → Sat (system_of net runs) z → HasListing net runs z
