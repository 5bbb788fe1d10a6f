-- Lines of memory as text: those that an assignment has of a program's system, and those of a trace.
use Rattle.std.specs.Prelude.{ℕ, ◌+◌, ◌*◌, List, [], ◌∷◌, ◌++◌, map, take, codes, decimal, if◌then◌else◌}
use Rattle.std.specs.List.{flat_map}
use Rattle.std.specs.Ordering.{is_lt, nat_cmp, ordering_then}
use Rattle.std.specs.declared.cmp.Ordering.{Ordering}
use Rattle.tv_block.specs.Block.{block_of}
use Rattle.tv_core.specs.Lines.{Line}
use Rattle.tv_layout.specs.Layout.{system_lines}
use Rattle.tv_layout.specs.Places.{boot_count, ProgramRuns}
use Rattle.tv_lines.specs.PackedLines.{line_value}
use Rattle.tv_step.specs.Cells.{boot_lines}
use Rattle.tv_listing.specs.declared.row.By.{By}
use Rattle.tv_listing.specs.declared.row.By.TheVariants.{Time, Cell}

-- ---- the lines
-- those that an assignment has, in time order: the system's, by their values
abbrev pub lines_at : ProgramRuns → List ℕ → List Line
lines_at runs z = map (line_value z) (system_lines (block_of runs.width) runs)

-- the first of them: those of the words of the image and of the tape, and three for each step up to this one
abbrev pub assigned_lines : ProgramRuns → ℕ → List ℕ → List Line
assigned_lines runs step z = take (boot_count runs.image runs.n + 3 * step) (lines_at runs z)

-- those of the words, and of the steps of a trace up to this one
abbrev pub traced_lines : List ℕ → List ℕ → ℕ → List Line → List Line
traced_lines image x step lines = boot_lines image x ++ take (3 * step) lines

-- ---- their order
-- how two lines compare: by cell, then by time, by old word, and by new word
abbrev pub compared : Line → Line → Ordering
compared l m = ordering_then (nat_cmp l.cell m.cell) (ordering_then (nat_cmp l.time m.time) (ordering_then (nat_cmp l.old m.old) (nat_cmp l.new m.new)))

-- a line put into lines in that order, and lines in that order
abbrev pub put_in : Line → List Line → List Line
put_in l [] = l ∷ []
put_in l (m ∷ rest) = if is_lt (compared m l) then m ∷ put_in l rest else l ∷ m ∷ rest

abbrev pub by_cell : List Line → List Line
by_cell [] = []
by_cell (l ∷ rest) = put_in l (by_cell rest)

-- lines in the order that is asked for: of their times, in which they are, or by cell
abbrev pub ordered : By → List Line → List Line
ordered Time lines = lines
ordered Cell lines = by_cell lines

-- ---- their text
-- time, cell, old word and new word in decimal, apart by one space, and a line feed
abbrev pub line_text : Line → List ℕ
line_text line =
    decimal line.time ++ codes " " ++ decimal line.cell ++ codes " " ++ decimal line.old ++ codes " " ++ decimal line.new ++ codes "\n"

-- the text of lines, in the order in which they are
abbrev pub text_of : List Line → List ℕ
text_of lines = flat_map line_text lines

-- the text of lines in an order
abbrev pub text_by : By → List Line → List ℕ
text_by by lines = text_of (ordered by lines)
