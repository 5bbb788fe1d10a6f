-- Lines by their places, and lines whose times are their places.
use Rattle.std.specs.Prelude.{◌≡◌, ℕ, ◌+◌, ◌^◌, ◌<◌, List, [], ◌∷◌, slice_index_or}
use Rattle.tv_core.specs.Lines.{Line}
use Rattle.tv_core.specs.declared.lines.LineLc.{LineLc}
use Rattle.tv_lines.specs.PackedLines.{cell_bits}

-- the line at a place, of combinations or of numbers; past the end it is all 0
abbrev pub no_line : LineLc
no_line = record { cell = []; time = []; old = []; new = [] }

abbrev pub line_in : List LineLc → ℕ → LineLc
line_in lines i = slice_index_or lines i no_line

abbrev pub zero_line : Line
zero_line = record { cell = 0; time = 0; old = 0; new = 0 }

abbrev pub number_in : List Line → ℕ → Line
number_in lines i = slice_index_or lines i zero_line

-- a line of words, of a cell that there is
pub record IsLine (line : Line) : Type 0 where
  pub cell : line.cell < 2 ^ cell_bits
  pub old : line.old < 2 ^ 32
  pub new : line.new < 2 ^ 32

-- such lines at the times t, t + 1, ..
abbrev pub LinesFrom : ℕ → List Line → Type 0
LinesFrom t [] = Unit {0}
LinesFrom t (line ∷ later) = (line.time ≡ t) × IsLine line × LinesFrom (t + 1) later
