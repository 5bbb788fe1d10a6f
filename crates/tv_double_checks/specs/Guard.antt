-- A guard's line, which leaves (0, 0), checked without the time.
use Rattle.std.specs.Prelude.{◌≡◌, ℕ, ◌+◌, ◌*◌, ◌^◌, ◌<◌, ◌≤◌, List, [], length}
use Rattle.tv_bits.specs.Bits.{bits_values, new_bits_of}
use Rattle.tv_core.specs.Circuits.{Circuit, put, ◌>>=◌}
use Rattle.tv_core.specs.Combinations.{wire, top}
use Rattle.tv_core.specs.Laws.{Assigns, Meets, HasFrom, Fills, InField}
use Rattle.tv_core.specs.Lines.{pair_value}
use Rattle.tv_core.specs.Meanings.{terms_in}
use Rattle.tv_core.specs.Normal.{AreNormal}
use Rattle.tv_core.specs.declared.lines.Pair.{Pair}
use Rattle.tv_double_checks.specs.Differences.{cells_after, excess, cell_difference}
use Rattle.tv_double_checks.specs.Items.{HasWords, packed}
use Rattle.tv_double_checks.specs.declared.items.CellWords.{CellWords}
use Rattle.tv_doubles.specs.Doubles.{DoubleLine, Succeeds, no_words}
use Rattle.tv_doubles.specs.Within.{IsBase, DoubleInRange, Joins, cells_between}

-- ---- the circuit
-- the item's number is the own one, or that of a double cell above, by a reach of m bits
unfoldable pub guard_of : ℕ → ℕ → CellWords → Pair → Circuit (Unit {0})
guard_of b m own item = do
  reach ← new_bits_of m
  put (cell_difference b own item.first) (excess b reach own item) []

-- the bits of the reach from line l to line k
abbrev pub guard_values : ℕ → DoubleLine → DoubleLine → List ℕ
guard_values m l k = bits_values (cells_between l k) m

-- ---- the laws
-- in an assignment that satisfies the constraints the line of the item joins a line that leaves (0, 0)
abbrev pub GuardIsSound : Type 0
GuardIsSound = (z : List ℕ) (next b m : ℕ) (own : CellWords) (item : Pair) (l k : DoubleLine) (j : ℕ) → IsBase b → m ≤ 30 → Assigns z
    → HasWords z own l.cell l.new → pair_value z item ≡ packed b k j → DoubleInRange b l → DoubleInRange b k → l.new ≡ no_words
    → Meets z (guard_of b m own item next).list → Joins l k

-- where it succeeds it, and the reach has m bits, an assignment that has these values satisfies the constraints
abbrev pub GuardIsComplete : Type 0
GuardIsComplete = (z : List ℕ) (next b m : ℕ) (own : CellWords) (item : Pair) (l k : DoubleLine) (i j : ℕ) → IsBase b → m ≤ 30 → Assigns z
    → HasWords z own l.cell l.new → pair_value z item ≡ packed b k j → DoubleInRange b l → DoubleInRange b k → Succeeds l i k j → l.new ≡ no_words
    → cells_between l k < 2 ^ m → HasFrom z next (guard_values m l k) → Meets z (guard_of b m own item next).list

-- as many values as wires, and each below P
pub record GuardSizes : Type 0 where
  pub end : (b m : ℕ) (own : CellWords) (item : Pair) (next : ℕ) → (guard_of b m own item next).next ≡ next + m
  pub fills : (b m : ℕ) (own : CellWords) (item : Pair) (l k : DoubleLine) → Fills (guard_of b m own item) (guard_values m l k)
  pub in_field : (m : ℕ) (l k : DoubleLine) → InField (guard_values m l k)

-- how many terms they have where the item is two wires after those of the own line
abbrev pub guard_terms : ℕ → ℕ → CellWords → ℕ
guard_terms b m own = 4 * m + 2 + length (cells_after b own []) + length (cell_difference b own [])

-- how many constraints it emits, and how many terms they have
pub record GuardCosts : Type 0 where
  pub constraints : (b m : ℕ) (own : CellWords) (item : Pair) (next : ℕ) → length (guard_of b m own item next).list ≡ m + 1
  pub terms : (b m : ℕ) (own : CellWords) (u v next : ℕ) → 1 ≤ u → top own.cell ≤ u → top own.sum ≤ u
      → terms_in (guard_of b m own (record { first = wire u; second = wire v }) next).list ≡ guard_terms b m own

-- what it emits is normal, whatever the own line's combinations are
abbrev pub GuardIsNormal : Type 0
GuardIsNormal = (b m : ℕ) (own : CellWords) (item : Pair) (next : ℕ) → IsBase b → m ≤ 30 → 1 ≤ next → top own.cell ≤ next → top item.first ≤ next
    → AreNormal (guard_of b m own item next).list
