-- The code's line in numbers.
use Rattle.tv_core.specs.Lines.{Line}
use Rattle.tv_listing.specs.declared.row.ListedLine.{ListedLine}

-- as a line
abbrev pub row_line : ListedLine → Line
row_line row = record { cell = row.cell; time = row.time; old = row.old; new = row.new }
