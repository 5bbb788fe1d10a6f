-- A memory argument without a network: a line's old word is looked up among the earlier lines.
use Rattle.std.specs.Prelude.{◌≡◌, ℕ, ◌+◌, ◌-◌, ◌*◌, ◌%◌, ◌<◌, ◌≤◌, List, [], ◌∷◌, ◌++◌, length, map, take}
use Rattle.tv_bits.specs.Select.{select_of}
use Rattle.tv_bits.specs.Zero.{zero_of, zero_values}
use Rattle.tv_core.specs.Below.{joined_below}
use Rattle.tv_core.specs.Circuits.{Circuit, put, pure, turns, ◌>>=◌}
use Rattle.tv_core.specs.Combinations.{constant, less, top, wire}
use Rattle.tv_core.specs.Constraints.{Combination, value}
use Rattle.tv_core.specs.Laws.{Assigns, Meets, HasFrom, Fills, InField}
use Rattle.tv_core.specs.Lines.{Line, memory_after}
use Rattle.tv_core.specs.declared.field.TheConstants.{P}
use Rattle.tv_core.specs.declared.lines.LineLc.{LineLc}
use Rattle.tv_lines.specs.PackedLines.{line_value}
use Rattle.tv_lines.specs.Placed.{line_in, number_in}

-- the combinations of a line are short, and made of wires below a number
pub record IsMade (wires : ℕ) (line : LineLc) : Type 0 where
  pub cell : top line.cell ≤ wires
  pub old : top line.old ≤ wires
  pub new : top line.new ≤ wires
  pub cell_short : length line.cell ≤ 64
  pub new_short : length line.new ≤ 64

-- ---- the circuit
-- a new wire: the new word of an earlier line where that has the line's cell, and else the word so far
unfoldable pub look_of : LineLc → LineLc → Combination → Circuit ℕ
look_of before line word = do
  same ← zero_of (less line.cell before.cell)
  select_of same before.new word

-- the same of earlier line number i, as a combination
unfoldable pub turn_of : List LineLc → LineLc → ℕ → Combination → Circuit Combination
turn_of earlier line i word = do
  w ← look_of (line_in earlier i) line word
  pure (wire w)

-- from 0 on, the word after all of them is the line's old one
unfoldable pub scan_of : List LineLc → LineLc → Circuit (Unit {0})
scan_of earlier line = do
  word ← turns (length earlier) (turn_of earlier line) []
  put word (constant 1) line.old

-- ---- the values
-- the word that the first n lines left in the line's cell
abbrev pub word_after : List Line → Line → ℕ → ℕ
word_after earlier line n = memory_after (take n earlier) line.cell

-- by how much the line's cell is above that of earlier line i, modulo P
abbrev pub cell_gap : List Line → Line → ℕ → ℕ
cell_gap earlier line i = (line.cell + (P - (number_in earlier i).cell)) % P

-- the values of the wires that are made for earlier line i, and for all
abbrev pub look_values : List Line → Line → ℕ → List ℕ
look_values earlier line i = zero_values (cell_gap earlier line i) ++ word_after earlier line (i + 1) ∷ []

abbrev pub scan_values : List Line → Line → List ℕ
scan_values earlier line = joined_below (length earlier) (look_values earlier line)

-- ---- the laws
-- in an assignment that satisfies the constraints the old word is the new one of the latest earlier line of the cell, or 0
abbrev pub ScanIsSound : Type 0
ScanIsSound = (z : List ℕ) (next : ℕ) (earlier : List LineLc) (line : LineLc) → Assigns z → Meets z (scan_of earlier line next).list
    → value line.old z ≡ memory_after (map (line_value z) earlier) (value line.cell z)

-- where it is, an assignment that has these values at the wires that were made satisfies the constraints
abbrev pub ScanIsComplete : Type 0
ScanIsComplete = (z : List ℕ) (next : ℕ) (earlier : List LineLc) (line : LineLc) → Assigns z
    → value line.old z ≡ memory_after (map (line_value z) earlier) (value line.cell z)
    → HasFrom z next (scan_values (map (line_value z) earlier) (line_value z line)) → Meets z (scan_of earlier line next).list

-- as many values as wires, and each below P where the new words are
pub record ScanSizes : Type 0 where
  pub end : (earlier : List LineLc) (line : LineLc) (next : ℕ) → (scan_of earlier line next).next ≡ next + length earlier * 3
  pub fills : (earlier : List LineLc) (line : LineLc) (numbers : List Line) (m : Line) → length numbers ≡ length earlier
      → Fills (scan_of earlier line) (scan_values numbers m)
  pub in_field : (numbers : List Line) (m : Line) → ((i : ℕ) → i < length numbers → (number_in numbers i).new < P) → InField (scan_values numbers m)
