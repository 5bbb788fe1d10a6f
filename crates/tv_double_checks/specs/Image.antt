-- The line of an image pair, whose successor is in the same double cell or in the next one.
use Rattle.std.specs.Prelude.{◌≡◌, ℕ, ◌+◌, ◌*◌, ◌^◌, ◌<◌, ◌≤◌, List, [], length}
use Rattle.tv_bits.specs.Bits.{bits_combination, bits_values, new_bits_of}
use Rattle.tv_bits.specs.declared.bit_wires.Bits.{Bits}
use Rattle.tv_core.specs.Circuits.{Circuit, put, ◌>>=◌}
use Rattle.tv_core.specs.Combinations.{wire, constant, top}
use Rattle.tv_core.specs.Constraints.{Combination}
use Rattle.tv_core.specs.Laws.{Assigns, Meets, HasFrom, Fills, InField}
use Rattle.tv_core.specs.Lines.{pair_value}
use Rattle.tv_core.specs.Meanings.{terms_in}
use Rattle.tv_core.specs.Normal.{normal, AreNormal}
use Rattle.tv_core.specs.declared.lines.Pair.{Pair}
use Rattle.tv_double_checks.specs.Differences.{minus, cells_after, cell_difference}
use Rattle.tv_double_checks.specs.Items.{HasWords, packed}
use Rattle.tv_double_checks.specs.declared.items.CellWords.{CellWords}
use Rattle.tv_doubles.specs.Doubles.{DoubleLine, Succeeds}
use Rattle.tv_doubles.specs.Within.{IsBase, DoubleInRange, time_between}

-- ---- the circuit
-- the item's second number less b times 1 + the own place, and less the second own word
abbrev pub places_after : ℕ → CellWords → Combination → Combination
places_after b own second = normal (minus 1 (minus b second (constant (own.place + 1))) own.second)

-- the same less b times the reach, whose bits are new wires
abbrev pub place_excess : ℕ → Bits → CellWords → Combination → Combination
place_excess b reach own second = minus b (places_after b own second) (bits_combination reach.first reach.n)

-- the item's number is that of the next double cell, or the item succeeds the own line in the same one, by a reach of m bits
unfoldable pub image_pair_of : ℕ → ℕ → CellWords → Pair → Circuit (Unit {0})
image_pair_of b m own item = do
  reach ← new_bits_of m
  _ ← put (cells_after b own item.first) (cell_difference b own item.first) []
  put (cells_after b own item.first) (place_excess b reach own item.second) []

-- the bits of the reach from line l at place i to line k at place j
abbrev pub image_pair_values : ℕ → DoubleLine → ℕ → DoubleLine → ℕ → List ℕ
image_pair_values m l i k j = bits_values (time_between l i k j) m

-- ---- the laws
-- in an assignment that satisfies the constraints the line of the item succeeds the own line
abbrev pub ImagePairIsSound : Type 0
ImagePairIsSound = (z : List ℕ) (next b m : ℕ) (own : CellWords) (item : Pair) (l k : DoubleLine) (j : ℕ) → IsBase b → m ≤ 30 → Assigns z
    → HasWords z own l.cell l.new → pair_value z item ≡ packed b k j → DoubleInRange b l → DoubleInRange b k → own.place < 2 ^ 20 → j < 2 ^ 20
    → Meets z (image_pair_of b m own item next).list → Succeeds l own.place k j

-- where it does, at most in the next double cell, and the reach has m bits, an assignment that has these values satisfies the
-- constraints
abbrev pub ImagePairIsComplete : Type 0
ImagePairIsComplete = (z : List ℕ) (next b m : ℕ) (own : CellWords) (item : Pair) (l k : DoubleLine) (j : ℕ) → IsBase b → m ≤ 30 → Assigns z
    → HasWords z own l.cell l.new → pair_value z item ≡ packed b k j → DoubleInRange b l → DoubleInRange b k → own.place < 2 ^ 20 → j < 2 ^ 20
    → Succeeds l own.place k j → k.cell ≤ l.cell + 1 → time_between l own.place k j < 2 ^ m
    → HasFrom z next (image_pair_values m l own.place k j) → Meets z (image_pair_of b m own item next).list

-- as many values as wires, and each below P
pub record ImagePairSizes : Type 0 where
  pub end : (b m : ℕ) (own : CellWords) (item : Pair) (next : ℕ) → (image_pair_of b m own item next).next ≡ next + m
  pub fills : (b m : ℕ) (own : CellWords) (item : Pair) (l : DoubleLine) (i : ℕ) (k : DoubleLine) (j : ℕ)
      → Fills (image_pair_of b m own item) (image_pair_values m l i k j)
  pub in_field : (m : ℕ) (l : DoubleLine) (i : ℕ) (k : DoubleLine) (j : ℕ) → InField (image_pair_values m l i k j)

-- how many terms they have where the item is two wires after those of the own line
abbrev pub image_pair_terms : ℕ → ℕ → CellWords → ℕ
image_pair_terms b m own =
    4 * m + 4 + 2 * length (cells_after b own []) + length (cell_difference b own []) + length (places_after b own [])

-- how many constraints it emits, and how many terms they have
pub record ImagePairCosts : Type 0 where
  pub constraints : (b m : ℕ) (own : CellWords) (item : Pair) (next : ℕ) → length (image_pair_of b m own item next).list ≡ m + 2
  pub terms : (b m : ℕ) (own : CellWords) (u v next : ℕ) → 1 ≤ u → top own.cell ≤ u → top own.sum ≤ u → 1 ≤ v → top own.second ≤ v
      → terms_in (image_pair_of b m own (record { first = wire u; second = wire v }) next).list ≡ image_pair_terms b m own

-- what it emits is normal, whatever the own line's combinations are
abbrev pub ImagePairIsNormal : Type 0
ImagePairIsNormal = (b m : ℕ) (own : CellWords) (item : Pair) (next : ℕ) → IsBase b → m ≤ 30 → 1 ≤ next → top own.second ≤ next → top item.second ≤ next
    → AreNormal (image_pair_of b m own item next).list
