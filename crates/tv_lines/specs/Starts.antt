-- Lines that begin a cell, of which the old word is 0: a boot line, whose predecessor is of the cell before, and the least
-- line of all, which has none.
use Rattle.std.specs.Prelude.{◌≡◌, ℕ, ◌+◌, ◌^◌, ◌<◌, ◌≤◌, List, [], length}
use Rattle.tv_core.specs.Circuits.{Circuit, put}
use Rattle.tv_core.specs.Combinations.{wire, constant}
use Rattle.tv_core.specs.Laws.{Assigns, Meets, Fills}
use Rattle.tv_core.specs.Lines.{Line, pair_value}
use Rattle.tv_core.specs.Meanings.{terms_in}
use Rattle.tv_core.specs.Normal.{normal, AreNormal}
use Rattle.tv_core.specs.declared.lines.LineLc.{LineLc}
use Rattle.tv_core.specs.declared.lines.Pair.{Pair}
use Rattle.tv_lines.specs.Ordered.{Follows}
use Rattle.tv_lines.specs.PackedLines.{LineInRange, line_value, packed_item}
use Rattle.tv_lines.specs.Predecessor.{less_above}

-- ---- a boot line
-- the item is of cell c
unfoldable pub boot_line_of : ℕ → Pair → Circuit (Unit {0})
boot_line_of c item = put (less_above item.first (constant c)) (constant 1) []

-- in an assignment that satisfies the constraints, a line of the next cell whose old word is 0 follows that of the item
abbrev pub BootLineIsSound : Type 0
BootLineIsSound = (z : List ℕ) (next c : ℕ) (item : Pair) (p l : Line) → c < 2 ^ 31 → Assigns z → pair_value z item ≡ packed_item p → LineInRange p
    → l.cell ≡ c + 1 → l.old ≡ 0 → Meets z (boot_line_of c item next).list → Follows p l

-- where the item is of that cell, an assignment satisfies the constraints
abbrev pub BootLineIsComplete : Type 0
BootLineIsComplete = (z : List ℕ) (next c : ℕ) (item : Pair) (p : Line) → c < 2 ^ 31 → Assigns z → pair_value z item ≡ packed_item p
    → p.cell ≡ c → Meets z (boot_line_of c item next).list

-- how many terms it has where the item is two wires
abbrev pub boot_line_terms : ℕ → ℕ
boot_line_terms c = length (less_above [] (constant c)) + 2

-- it makes no wire, and puts one constraint, which is normal
pub record BootLineSizes : Type 0 where
  pub end : (c : ℕ) (item : Pair) (next : ℕ) → (boot_line_of c item next).next ≡ next
  pub fills : (c : ℕ) (item : Pair) → Fills (boot_line_of c item) []
  pub constraints : (c : ℕ) (item : Pair) (next : ℕ) → length (boot_line_of c item next).list ≡ 1
  pub terms : (c u v next : ℕ) → 1 ≤ u → terms_in (boot_line_of c (record { first = wire u; second = wire v }) next).list ≡ boot_line_terms c
  pub is_normal : (c : ℕ) (item : Pair) (next : ℕ) → AreNormal (boot_line_of c item next).list

-- ---- the least line
-- its old word is 0
unfoldable pub least_line_of : LineLc → Circuit (Unit {0})
least_line_of line = put (normal line.old) (constant 1) []

-- an assignment satisfies the constraints exactly where the old word is 0
abbrev pub LeastLineIsSound : Type 0
LeastLineIsSound = (z : List ℕ) (next : ℕ) (line : LineLc) → Assigns z → Meets z (least_line_of line next).list → (line_value z line).old ≡ 0

abbrev pub LeastLineIsComplete : Type 0
LeastLineIsComplete = (z : List ℕ) (next : ℕ) (line : LineLc) → Assigns z → (line_value z line).old ≡ 0 → Meets z (least_line_of line next).list

-- how many terms it has
abbrev pub least_line_terms : LineLc → ℕ
least_line_terms line = length (normal line.old) + 1

-- it makes no wire, and puts one constraint, which is normal
pub record LeastLineSizes : Type 0 where
  pub end : (line : LineLc) (next : ℕ) → (least_line_of line next).next ≡ next
  pub fills : (line : LineLc) → Fills (least_line_of line) []
  pub constraints : (line : LineLc) (next : ℕ) → length (least_line_of line next).list ≡ 1
  pub terms : (line : LineLc) (next : ℕ) → terms_in (least_line_of line next).list ≡ least_line_terms line
  pub is_normal : (line : LineLc) (next : ℕ) → AreNormal (least_line_of line next).list
