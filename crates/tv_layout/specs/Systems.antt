-- The system of a program over the circuit of one step that tv_block puts, and what is claimed of it.
use Rattle.std.specs.Prelude.{◌≡◌, ℕ, List, length}
use Rattle.tv_stages.specs.declared.nets.Net.{Net}
use Rattle.tv_block.specs.Block.{block_of}
use Rattle.tv_block.specs.Complete.{step_values}
use Rattle.tv_core.specs.Constraints.{System, Sat}
use Rattle.tv_core.specs.Laws.{HasFrom}
use Rattle.tv_step.specs.Machine.{Accepts}
use Rattle.tv_step.specs.Range.{AreWords}
use Rattle.tv_layout.specs.Layout.{layout}
use Rattle.tv_layout.specs.Places.{WithinLimits, tape_at, ProgramRuns, runs_like}
use Rattle.tv_layout.specs.Reduces.{Reduces}
use Rattle.tv_layout.specs.RunInputs.{RunInput}
use Rattle.tv_layout.specs.Sound.{IsRun}
use Rattle.tv_layout.specs.Values.{fill, IsFill}

-- the system of a program's runs
abbrev pub system_of : Net → ProgramRuns → System
system_of net runs = layout (block_of runs.width) net runs

-- the values of its wires for a run that answers v
abbrev pub run_values : Net → RunInput → ℕ → List ℕ
run_values net run v = fill (step_values run.width) net run v

-- each satisfying assignment is a run on its own tape
abbrev pub SystemIsSound : Type 0
SystemIsSound = (net : Net) (runs : ProgramRuns) (x z : List ℕ) → WithinLimits runs → length x ≡ runs.n → HasFrom z tape_at x
    → Sat (system_of net runs) z → IsRun (block_of runs.width) runs x z

-- the values for each run that answers are a satisfying assignment
abbrev pub SystemIsComplete : Type 0
SystemIsComplete = (net : Net) (run : RunInput) (v : ℕ) → WithinLimits (runs_like run.width run.image run.tape run.t)
    → AreWords run.width run.tape → AreWords run.width run.aux → Accepts run.width run.image run.tape run.aux run.t v
    → IsFill net (block_of run.width) run v (run_values net run v)

-- the system of each program, tape's length and number of steps within the limits is a reduction, over both networks
abbrev pub SystemReduces : Type 0
SystemReduces = (net : Net) (runs : ProgramRuns) → WithinLimits runs → Reduces (system_of net runs) runs
