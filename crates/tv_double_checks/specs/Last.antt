-- The greatest line, which has no successor: the item at its place is that of the least line.
use Rattle.std.specs.Prelude.{◌≡◌, ℕ, List, [], length}
use Rattle.tv_core.specs.Circuits.{Circuit, put}
use Rattle.tv_core.specs.Combinations.{wire, constant}
use Rattle.tv_core.specs.Laws.{Assigns, Meets, Fills}
use Rattle.tv_core.specs.Lines.{pair_value}
use Rattle.tv_core.specs.Meanings.{terms_in}
use Rattle.tv_core.specs.Normal.{normal, AreNormal}
use Rattle.tv_core.specs.declared.lines.Pair.{Pair}
use Rattle.tv_double_checks.specs.Items.{packed}
use Rattle.tv_doubles.specs.Doubles.{DoubleLine, no_words}
use Rattle.tv_doubles.specs.Within.{IsBase, DoubleInRange}

-- the item's first number is 0
unfoldable pub last_line_of : Pair → Circuit (Unit {0})
last_line_of item = put (normal item.first) (constant 1) []

-- an assignment satisfies the constraints exactly where the line of the item is in double cell 0, and its old pair is (0, 0)
abbrev pub LastLineIsSound : Type 0
LastLineIsSound = (z : List ℕ) (next b : ℕ) (item : Pair) (k : DoubleLine) (j : ℕ) → IsBase b → Assigns z → pair_value z item ≡ packed b k j
    → DoubleInRange b k → Meets z (last_line_of item next).list → (k.cell ≡ 0) × (k.old ≡ no_words)

abbrev pub LastLineIsComplete : Type 0
LastLineIsComplete = (z : List ℕ) (next b : ℕ) (item : Pair) (k : DoubleLine) (j : ℕ) → Assigns z → pair_value z item ≡ packed b k j
    → k.cell ≡ 0 → k.old ≡ no_words → Meets z (last_line_of item next).list

-- it makes no wire, and emits one constraint, which is normal
pub record LastLineSizes : Type 0 where
  pub end : (item : Pair) (next : ℕ) → (last_line_of item next).next ≡ next
  pub fills : (item : Pair) → Fills (last_line_of item) []
  pub constraints : (item : Pair) (next : ℕ) → length (last_line_of item next).list ≡ 1
  pub terms : (u v next : ℕ) → terms_in (last_line_of (record { first = wire u; second = wire v }) next).list ≡ 2
  pub is_normal : (item : Pair) (next : ℕ) → AreNormal (last_line_of item next).list
