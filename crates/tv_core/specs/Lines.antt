-- Pairs, and lines of memory: at each time one cell is accessed, and its word goes from old to new.
use Rattle.std.specs.Prelude.{◌≡◌, ℕ, ◌==◌, if◌then◌else◌, List, [], ◌∷◌, ◌++◌, fold}
use Rattle.tv_core.specs.Constraints.{value}
use Rattle.tv_core.specs.declared.lines.Line.{Line as Numbers}
use Rattle.tv_core.specs.declared.lines.Pair.{Pair}
use Rattle.tv_core.specs.declared.lines.PairNum.{PairNum}

-- a line of memory: a cell, a time, the cell's word before it, and its word from then on
abbrev pub Line : Type 0
Line = Numbers

-- the numbers of a pair of combinations
abbrev pub pair_value : List ℕ → Pair → PairNum
pair_value z pair = record { first = value pair.first z; second = value pair.second z }

-- a memory, as the word of each cell, after a line
abbrev pub written : (ℕ → ℕ) → Line → ℕ → ℕ
written memory line cell = if line.cell == cell then line.new else memory cell

-- the word of each cell after lines in time order, all being 0 before them: the new word of the
-- latest line of the cell
abbrev pub memory_after : List Line → ℕ → ℕ
memory_after lines = fold written (λ _. 0) lines

-- lines in time order are honest: each old word is what the earlier lines left in the cell
abbrev pub Honest : List Line → Type 0
Honest lines = (earlier : List Line) (line : Line) (later : List Line)
    → lines ≡ earlier ++ line ∷ later → line.old ≡ memory_after earlier line.cell

-- the same by recursion, from a memory on
abbrev pub HonestFrom : (ℕ → ℕ) → List Line → Type 0
HonestFrom memory [] = Unit {0}
HonestFrom memory (line ∷ later) = (line.old ≡ memory line.cell) × HonestFrom (written memory line) later
