-- The line of a tape word, whose second word is 0, checked without the time.
use Rattle.std.specs.Prelude.{◌≡◌, ℕ, ◌+◌, ◌≤◌, List, [], length}
use Rattle.tv_core.specs.Circuits.{Circuit, put}
use Rattle.tv_core.specs.Combinations.{wire, top}
use Rattle.tv_core.specs.Laws.{Assigns, Meets, Fills}
use Rattle.tv_core.specs.Lines.{pair_value}
use Rattle.tv_core.specs.Meanings.{terms_in}
use Rattle.tv_core.specs.Normal.{AreNormal}
use Rattle.tv_core.specs.declared.lines.Pair.{Pair}
use Rattle.tv_double_checks.specs.Differences.{cells_after, cell_difference}
use Rattle.tv_double_checks.specs.Items.{HasWords, packed}
use Rattle.tv_double_checks.specs.declared.items.CellWords.{CellWords}
use Rattle.tv_doubles.specs.Doubles.{DoubleLine, Succeeds}
use Rattle.tv_doubles.specs.Within.{IsBase, DoubleInRange, Joins}

-- the item's number is that of the next double cell, or the own one
unfoldable pub tape_word_of : ℕ → CellWords → Pair → Circuit (Unit {0})
tape_word_of b own item = put (cells_after b own item.first) (cell_difference b own item.first) []

-- in an assignment that satisfies the constraints the line of the item joins the own line, where both second words are 0
abbrev pub TapeWordIsSound : Type 0
TapeWordIsSound = (z : List ℕ) (next b : ℕ) (own : CellWords) (item : Pair) (l k : DoubleLine) (j : ℕ) → IsBase b → Assigns z
    → HasWords z own l.cell l.new → pair_value z item ≡ packed b k j → DoubleInRange b l → DoubleInRange b k
    → l.new.second ≡ 0 → (l.cell ≡ k.cell → k.old.second ≡ 0) → Meets z (tape_word_of b own item next).list → Joins l k

-- where it succeeds it, at most in the next double cell, an assignment satisfies the constraints
abbrev pub TapeWordIsComplete : Type 0
TapeWordIsComplete = (z : List ℕ) (next b : ℕ) (own : CellWords) (item : Pair) (l k : DoubleLine) (i j : ℕ) → IsBase b → Assigns z
    → HasWords z own l.cell l.new → pair_value z item ≡ packed b k j → DoubleInRange b l → DoubleInRange b k
    → Succeeds l i k j → l.new.second ≡ 0 → k.cell ≤ l.cell + 1 → Meets z (tape_word_of b own item next).list

-- how many terms it has where the item is two wires after those of the own line
abbrev pub tape_word_terms : ℕ → CellWords → ℕ
tape_word_terms b own = length (cells_after b own []) + length (cell_difference b own []) + 2

-- it makes no wire, and emits one constraint, which is normal
pub record TapeWordSizes : Type 0 where
  pub end : (b : ℕ) (own : CellWords) (item : Pair) (next : ℕ) → (tape_word_of b own item next).next ≡ next
  pub fills : (b : ℕ) (own : CellWords) (item : Pair) → Fills (tape_word_of b own item) []
  pub constraints : (b : ℕ) (own : CellWords) (item : Pair) (next : ℕ) → length (tape_word_of b own item next).list ≡ 1
  pub terms : (b : ℕ) (own : CellWords) (u v next : ℕ) → 1 ≤ u → top own.cell ≤ u → top own.sum ≤ u
      → terms_in (tape_word_of b own (record { first = wire u; second = wire v }) next).list ≡ tape_word_terms b own
  pub is_normal : (b : ℕ) (own : CellWords) (item : Pair) (next : ℕ) → AreNormal (tape_word_of b own item next).list
