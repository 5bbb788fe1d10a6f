-- How the lines of a system are checked: each by its kind, which its position determines.
use Rattle.std.specs.Prelude.{ℕ, ◌+◌, ◌-◌, ◌/◌, ◌%◌, ◌==◌, nat_lt, ◌&&◌, if◌then◌else◌, length}
use Rattle.tv_core.specs.declared.limits.TheConstants.{CELL_BITS, TAPE_CELLS}
use Rattle.tv_argument.specs.Checks.{Checks}
use Rattle.tv_argument.specs.declared.kinds.Kind.{Kind}
use Rattle.tv_argument.specs.declared.kinds.Kind.TheVariants.{ZeroOld, Least, Boot, Within}
use Rattle.tv_layout.specs.Places.{line_count, log_of, ProgramRuns}

-- the least line is of cell 0: that of the image's first word, or, where the image has none, the first of the steps,
-- after those of the tape's n words
abbrev pub least_place : ℕ → ℕ → ℕ
least_place words n = if words == 0 then n else 0

-- line i of those that write words from a cell on: the first is of the kind `first`, and each other of the cell after
-- that of the line before it
abbrev pub boot_kind : Kind → ℕ → ℕ → Kind
boot_kind first cell i = if i == 0 then first else Boot (cell + i - 1)

-- the kind of the line of the first word that a step fetches
abbrev pub first_kind : ℕ → ℕ → Kind
first_kind words step = if words == 0 && step == 0 then Least else Within CELL_BITS

-- line j of the steps: three a step, of the two words of its instruction, which stand in neighbouring cells, and of its
-- data word
abbrev pub step_kind : ℕ → ℕ → ℕ → Kind
step_kind k words j = if j % 3 == 0 then first_kind words (j / 3) else if j % 3 == 1 then Within k else Within CELL_BITS

-- line i of all, fewer than 2 ^ k or as many, of an image of this many words and a tape of n
abbrev pub line_kind : ℕ → ℕ → ℕ → ℕ → Kind
line_kind k words n i =
    if nat_lt i words then boot_kind ZeroOld 0 i
    else if nat_lt i (words + n) then boot_kind (Within CELL_BITS) TAPE_CELLS (i - words)
    else step_kind k words (i - (words + n))

-- each line is checked, but padding
abbrev pub checks_of : ProgramRuns → Checks
checks_of runs = record {
  least = least_place (length runs.image) runs.n;
  kind = line_kind (log_of (line_count runs)) (length runs.image) runs.n;
}
