-- What a satisfying assignment of a system is: a run.
use Rattle.std.specs.Prelude.{◌≡◌, ℕ, ◌-◌, ◌^◌, ◌<◌, ◌≤◌, List, ◌++◌, map, slice_index, zero, suc, ◌+◌, [], ◌∷◌}
use Rattle.tv_core.specs.Lines.{Line, Honest}
use Rattle.tv_lines.specs.PackedLines.{line_value}
use Rattle.tv_numbers.specs.Views.{Matches}
use Rattle.tv_step.specs.Cells.{run_lines}
use Rattle.tv_step.specs.Machine.{start, state_after, Accepts}
use Rattle.tv_step.specs.Range.{AreWords}
use Rattle.tv_step.specs.Reads.{word_taken, words_in, Reads}
use Rattle.tv_step.specs.Trace.{null_line}
use Rattle.tv_inputs.specs.States.{state_in}
use Rattle.tv_layout.specs.Blocks.{BlockCircuit}
use Rattle.tv_layout.specs.Layout.{step_state, step_block, system_lines, taken_at, taken_of}
use Rattle.tv_layout.specs.Places.{line_count, log_of, ProgramRuns, runs_like}

-- lines of the null cell, from a time on
abbrev pub padding : ℕ → ℕ → List Line
padding time zero = []
padding time (suc more) = null_line time ∷ padding (time + 1) more

-- all lines of a run: boot lines, those of its steps, and padding up to 2 ^ k
abbrev pub all_lines : ℕ → List ℕ → List ℕ → List ℕ → ℕ → List Line
all_lines w image x aux t =
    let count = line_count (runs_like w image x t) in
    run_lines w image x aux t ++ padding count (2 ^ log_of count - count)

-- An assignment z, with the words of the tape x, is a run: the public numbers are words, and so are the words taken,
-- which are a tape on which the machine answers the public answer within t steps and all of which it reads; the lines
-- are honest, and those of that run; the states are those of the machine, step by step; and each step takes at its
-- spot what the machine's step takes: the word where the number at `taken` is 1, and else none.
pub record IsRun (block : BlockCircuit) (runs : ProgramRuns) (x z : List ℕ) : Type 0 where
  pub tape : AreWords runs.width x
  pub answer : slice_index z 1 < 2 ^ runs.width
  pub taken : AreWords runs.width (taken_of block runs z)
  pub honest : Honest (map (line_value z) (system_lines block runs))
  pub lines : map (line_value z) (system_lines block runs) ≡ all_lines runs.width runs.image x (taken_of block runs z) runs.t
  pub states : (i : ℕ) → i ≤ runs.t
      → Matches x (state_in z (step_state block runs i)) (state_after runs.width i (start runs.width runs.image x (taken_of block runs z)))
  pub takes : (i : ℕ) → i < runs.t → taken_at z (step_block block runs i).spot
      ≡ words_in (word_taken runs.width (state_after runs.width i (start runs.width runs.image x (taken_of block runs z))))
  pub accepts : Accepts runs.width runs.image x (taken_of block runs z) runs.t (slice_index z 1)
  pub reads : Reads runs.width runs.image x (taken_of block runs z) runs.t ≡ taken_of block runs z
