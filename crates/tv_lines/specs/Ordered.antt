-- Lines in address order, and what it has to do with honest lines.
use Rattle.std.specs.Prelude.{◌≡◌, ◌≢◌, ◌⊎◌, ℕ, ◌+◌, ◌*◌, ◌^◌, ◌<◌, List, length, get_or, All, IsPermutation}
use Rattle.std.specs.List.Sorted.{IsNonDecreasingBy}
use Rattle.tv_core.specs.Lines.{Line, Honest}
use Rattle.tv_lines.specs.PackedLines.{time_bits}

-- m follows l: its cell is above, or its time in the same cell; its old word is l's new one in the same cell, else 0
pub record Follows (l m : Line) : Type 0 where
  pub rises : (l.cell < m.cell) ⊎ ((l.cell ≡ m.cell) × (l.time < m.time))
  pub carried : l.cell ≡ m.cell → m.old ≡ l.new
  pub fresh : l.cell ≢ m.cell → m.old ≡ 0

-- (cell, time) rises strictly, and each old is the previous line's new where that has the same cell, else 0
pub record Ordered (lines : List Line) : Type 0 where
  pub first : (d : Line) → 0 < length lines → (get_or lines 0 d).old ≡ 0
  pub follows : (i : ℕ) (d : Line) → i + 1 < length lines → Follows (get_or lines i d) (get_or lines (i + 1) d)

-- the times rise strictly
abbrev pub InTimeOrder : List Line → Type 0
InTimeOrder lines = (i j : ℕ) (d : Line) → i < j → j < length lines → (get_or lines i d).time < (get_or lines j d).time

-- the number by which lines are sorted: the cell above the time
abbrev pub key : Line → ℕ
key line = line.cell * 2 ^ time_bits + line.time

-- ---- the laws
-- lines in time order are honest where the same lines, in some other order, are in address order
abbrev pub OrderedLinesAreHonest : Type 0
OrderedLinesAreHonest = (lines sorted : List Line) → InTimeOrder lines → IsPermutation lines sorted → Ordered sorted → Honest lines

-- honest lines in time order, sorted by key, are in address order
abbrev pub SortedLinesAreOrdered : Type 0
SortedLinesAreOrdered = (lines sorted : List Line) → InTimeOrder lines → All (λ l. l.time < 2 ^ time_bits) lines → Honest lines
    → IsPermutation lines sorted → IsNonDecreasingBy key sorted → Ordered sorted
