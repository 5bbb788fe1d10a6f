-- Lines whose numbers stand at wires, and how they are checked.
use Rattle.std.specs.Prelude.{ℕ, ◌+◌, ◌*◌, ◌==◌, if◌then◌else◌, List}
use Rattle.tv_core.specs.Below.{each_below}
use Rattle.tv_core.specs.Combinations.{wire, constant}
use Rattle.tv_core.specs.declared.lines.LineLc.{LineLc}
use Rattle.tv_argument.specs.Checks.{Checks}
use Rattle.tv_argument.specs.declared.kinds.Kind.{Kind}
use Rattle.tv_argument.specs.declared.kinds.Kind.TheVariants.{Least, Boot, Within}

-- line i, at three wires in a row, the first line from wire 1 on; its time is its place
abbrev pub line_at : ℕ → LineLc
line_at i = record { cell = wire (3 * i + 1); time = constant i; old = wire (3 * i + 2); new = wire (3 * i + 3) }

abbrev pub eight_lines : List LineLc
eight_lines = each_below 8 line_at

-- line 0 is the least, line 1 is of the cell after 0, line 3 is near its predecessor
abbrev pub kind_at : ℕ → Kind
kind_at i = if i == 0 then Least else if i == 1 then Boot 0 else if i == 3 then Within 3 else Within 31

abbrev pub eight_checks : Checks
eight_checks = record { least = 0; kind = kind_at }
