-- A double line checked against its successor in address order, of which the item is known.
use Rattle.std.specs.Prelude.{◌≡◌, ℕ, ◌+◌, ◌*◌, ◌^◌, ◌<◌, ◌≤◌, List, [], ◌∷◌, ◌++◌, length}
use Rattle.tv_bits.specs.Bits.{bits_values, new_bits_of}
use Rattle.tv_bits.specs.Times.{kept_of}
use Rattle.tv_core.specs.Circuits.{Circuit, put, ◌>>=◌}
use Rattle.tv_core.specs.Combinations.{wire, constant, scaled, top}
use Rattle.tv_core.specs.Constraints.{Combination}
use Rattle.tv_core.specs.Laws.{Assigns, Meets, HasFrom, Fills, InField}
use Rattle.tv_core.specs.Lines.{pair_value}
use Rattle.tv_core.specs.Meanings.{terms_in}
use Rattle.tv_core.specs.Normal.{normal, AreNormal}
use Rattle.tv_core.specs.declared.lines.Pair.{Pair}
use Rattle.tv_double_checks.specs.Differences.{minus, cells_after, excess, cell_difference}
use Rattle.tv_double_checks.specs.Items.{HasWords, packed, unit}
use Rattle.tv_double_checks.specs.declared.items.CellWords.{CellWords}
use Rattle.tv_doubles.specs.Doubles.{DoubleLine, Succeeds}
use Rattle.tv_doubles.specs.Within.{IsBase, DoubleInRange, reach_between, excess_between}

-- ---- the circuit
-- twice the item's second number less 2 b times the own place, the own sum, and twice the second own word
abbrev pub place_difference : ℕ → CellWords → Combination → Combination
place_difference b own second = normal (minus 2 (minus 1 (minus (unit b) (scaled 2 second) (constant own.place)) own.sum) own.second)

-- the wire g is 0, or both differences are, the second one with g added
unfoldable pub either_of : ℕ → ℕ → CellWords → Pair → Circuit (Unit {0})
either_of b g own item = do
  _ ← put (wire g) (cell_difference b own item.first) []
  put (wire g) (place_difference b own item.second ++ wire g) []

-- the line of the item succeeds the own one, by a reach of m bits
unfoldable pub within_of : ℕ → ℕ → CellWords → Pair → Circuit (Unit {0})
within_of b m own item = do
  reach ← new_bits_of m
  g ← kept_of (excess b reach own item)
  either_of b g own item

-- ---- the values
-- the bits of the reach from line l at place i to line k at place j, and the excess
abbrev pub within_values : ℕ → ℕ → DoubleLine → ℕ → DoubleLine → ℕ → List ℕ
within_values b m l i k j = bits_values (reach_between l i k j) m ++ excess_between b l i k j ∷ []

-- ---- the laws
-- in an assignment that satisfies the constraints the line of the item succeeds the own line
abbrev pub WithinIsSound : Type 0
WithinIsSound = (z : List ℕ) (next b m : ℕ) (own : CellWords) (item : Pair) (l k : DoubleLine) (j : ℕ) → IsBase b → m ≤ 30 → Assigns z
    → HasWords z own l.cell l.new → pair_value z item ≡ packed b k j → DoubleInRange b l → DoubleInRange b k → own.place < 2 ^ 20 → j < 2 ^ 20
    → Meets z (within_of b m own item next).list → Succeeds l own.place k j

-- where it does, and the reach has m bits, an assignment that has these values at the wires that were made satisfies the constraints
abbrev pub WithinIsComplete : Type 0
WithinIsComplete = (z : List ℕ) (next b m : ℕ) (own : CellWords) (item : Pair) (l k : DoubleLine) (j : ℕ) → IsBase b → m ≤ 30 → Assigns z
    → HasWords z own l.cell l.new → pair_value z item ≡ packed b k j → DoubleInRange b l → DoubleInRange b k → own.place < 2 ^ 20 → j < 2 ^ 20
    → Succeeds l own.place k j → reach_between l own.place k j < 2 ^ m
    → HasFrom z next (within_values b m l own.place k j) → Meets z (within_of b m own item next).list

-- as many values as wires, and each below P
pub record WithinSizes : Type 0 where
  pub end : (b m : ℕ) (own : CellWords) (item : Pair) (next : ℕ) → (within_of b m own item next).next ≡ next + m + 1
  pub fills : (b m : ℕ) (own : CellWords) (item : Pair) (l : DoubleLine) (i : ℕ) (k : DoubleLine) (j : ℕ)
      → Fills (within_of b m own item) (within_values b m l i k j)
  pub in_field : (b m : ℕ) (l : DoubleLine) (i : ℕ) (k : DoubleLine) (j : ℕ) → InField (within_values b m l i k j)

-- how many terms they have where the item is two wires after those of the own line: each part over the line has one more then
abbrev pub within_terms : ℕ → ℕ → CellWords → ℕ
within_terms b m own = 4 * m + 8 + length (cells_after b own []) + length (cell_difference b own []) + length (place_difference b own [])

-- how many constraints it emits, and how many terms they have
pub record WithinCosts : Type 0 where
  pub constraints : (b m : ℕ) (own : CellWords) (item : Pair) (next : ℕ) → length (within_of b m own item next).list ≡ m + 3
  pub terms : (b m : ℕ) (own : CellWords) (u v next : ℕ) → 1 ≤ u → top own.cell ≤ u → top own.sum ≤ u → 1 ≤ v → top own.sum ≤ v → top own.second ≤ v
      → terms_in (within_of b m own (record { first = wire u; second = wire v }) next).list ≡ within_terms b m own

-- what it emits is normal, whatever the own line's combinations are, where all of them and the item's are of wires below the
-- next
abbrev pub WithinIsNormal : Type 0
WithinIsNormal = (b m : ℕ) (own : CellWords) (item : Pair) (next : ℕ) → IsBase b → m ≤ 30 → 1 ≤ next
    → top own.cell ≤ next → top own.sum ≤ next → top own.second ≤ next → top item.first ≤ next → top item.second ≤ next
    → AreNormal (within_of b m own item next).list
