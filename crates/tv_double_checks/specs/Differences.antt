-- By how much the first number of an item exceeds one of the own line, in combinations.
use Rattle.std.specs.Prelude.{ℕ, ◌-◌, ◌++◌}
use Rattle.tv_bits.specs.Bits.{bits_combination}
use Rattle.tv_bits.specs.declared.bit_wires.Bits.{Bits}
use Rattle.tv_core.specs.Combinations.{constant, scaled}
use Rattle.tv_core.specs.Constraints.{Combination}
use Rattle.tv_core.specs.Normal.{normal}
use Rattle.tv_core.specs.declared.field.TheConstants.{P}
use Rattle.tv_core.specs.declared.lines.Pair.{Pair}
use Rattle.tv_double_checks.specs.Items.{unit}
use Rattle.tv_double_checks.specs.declared.items.CellWords.{CellWords}

-- x less k times y
abbrev pub minus : ℕ → Combination → Combination → Combination
minus k x y = x ++ scaled (P - k) y

-- the item's first number less 2 b times the own double cell
abbrev pub first_less : ℕ → CellWords → Combination → Combination
first_less b own first = minus (unit b) first own.cell

-- the same for the next double cell; it is made normal, as a line's combinations may have a wire of another's
abbrev pub cells_after : ℕ → CellWords → Combination → Combination
cells_after b own first = normal (minus (unit b) (first_less b own first) (constant 1))

-- the same less 2 b times the reach, whose bits are new wires, which come last
abbrev pub excess : ℕ → Bits → CellWords → Pair → Combination
excess b reach own item = minus (unit b) (cells_after b own item.first) (bits_combination reach.first reach.n)

-- the item's first number less 2 b times the own double cell, and the sum
abbrev pub cell_difference : ℕ → CellWords → Combination → Combination
cell_difference b own first = normal (minus 1 (first_less b own first) own.sum)
