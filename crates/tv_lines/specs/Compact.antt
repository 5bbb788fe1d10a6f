-- Lines in compact form: what their combinations are made of.
use Rattle.std.specs.Prelude.{[], ◌∷◌}
use Rattle.tv_core.specs.Combinations.{wire, constant}
use Rattle.tv_core.specs.Constraints.{Combination}
use Rattle.tv_core.specs.declared.lines.LineLc.{LineLc}
use Rattle.tv_lines.specs.declared.compact.Cell.{Cell}
use Rattle.tv_lines.specs.declared.compact.Cell.TheVariants.{Multiple, After}
use Rattle.tv_lines.specs.declared.compact.CompactLine.{CompactLine}
use Rattle.tv_lines.specs.declared.compact.Word.{Word}
use Rattle.tv_lines.specs.declared.compact.Word.TheVariants.{Nothing, Number, Wired}

-- the combinations of a cell, of a word, and of a line
abbrev pub cell_lc : Cell → Combination
cell_lc (Multiple factor of) = (factor, of) ∷ []
cell_lc (After factor of) = (factor, of) ∷ (1, 0) ∷ []

abbrev pub word_lc : Word → Combination
word_lc Nothing = []
word_lc (Number number) = constant number
word_lc (Wired of) = wire of

abbrev pub line_lc : CompactLine → LineLc
line_lc line = record { cell = cell_lc line.cell; time = constant line.time; old = word_lc line.old; new = word_lc line.new }
