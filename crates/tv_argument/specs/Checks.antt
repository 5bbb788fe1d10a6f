-- How the lines of a memory argument are checked, each at its own place in time order: by kinds of line, which are known
-- from the places alone.
use Rattle.std.specs.Prelude.{◌≡◌, ◌≢◌, ◌⊎◌, ℕ, ◌+◌, ◌^◌, ◌<◌, ◌≤◌, List, [], length}
use Rattle.tv_core.specs.Circuits.{Circuit, pure}
use Rattle.tv_core.specs.Lines.{Line}
use Rattle.tv_core.specs.declared.lines.LineLc.{LineLc}
use Rattle.tv_core.specs.declared.lines.Pair.{Pair}
use Rattle.tv_lines.specs.Ordered.{key}
use Rattle.tv_lines.specs.Placed.{number_in}
use Rattle.tv_lines.specs.Predecessor.{follows_of, follows_terms, follows_values}
use Rattle.tv_lines.specs.Starts.{boot_line_of, boot_line_terms, least_line_of, least_line_terms}
use Rattle.tv_argument.specs.declared.kinds.Kind.{Kind}
use Rattle.tv_argument.specs.declared.kinds.Kind.TheVariants.{ZeroOld, Least, Boot, Within}

-- each line is checked by the kind of its place; that at `least` is the least of all
pub record Checks : Type 0 where
  pub least : ℕ
  pub kind : ℕ → Kind

-- ---- the check of a line against the item of its predecessor
abbrev pub check_of : Kind → Pair → LineLc → Circuit (Unit {0})
check_of ZeroOld item line = pure tt
check_of Least item line = least_line_of line
check_of (Boot c) item line = boot_line_of c item
check_of (Within m) item line = follows_of m line item

-- the values of the wires that it makes, by the predecessor and the line
abbrev pub check_values : Kind → Line → Line → List ℕ
check_values ZeroOld before line = []
check_values Least before line = []
check_values (Boot c) before line = []
check_values (Within m) before line = follows_values m before line

-- how many wires it makes, how many constraints it puts, and how many terms these have where an item is two wires after
-- those of the line
abbrev pub check_made : Kind → ℕ
check_made ZeroOld = 0
check_made Least = 0
check_made (Boot c) = 0
check_made (Within m) = m + 1

abbrev pub check_added : Kind → ℕ
check_added ZeroOld = 0
check_added Least = 1
check_added (Boot c) = 1
check_added (Within m) = m + 3

abbrev pub check_terms : Kind → LineLc → ℕ
check_terms ZeroOld line = 0
check_terms Least line = least_line_terms line
check_terms (Boot c) line = boot_line_terms c
check_terms (Within m) line = follows_terms m line

-- a reach has at most 31 bits
abbrev pub IsShortKind : Kind → Type 0
IsShortKind ZeroOld = Unit {0}
IsShortKind Least = Unit {0}
IsShortKind (Boot c) = Unit {0}
IsShortKind (Within m) = m ≤ 31

-- n lines are checked by short reaches
abbrev pub AreShort : Checks → ℕ → Type 0
AreShort checks n = (i : ℕ) → i < n → IsShortKind (checks.kind i)

-- ---- what the lines have to be so that the checks are sound
-- the line at place i is of a kind: the least line alone is `ZeroOld` or `Least`; a `ZeroOld` line and a `Boot` line have an
-- old word of 0, and a `Boot` line is of the cell after c
abbrev pub IsOfKind : ℕ → ℕ → Line → Kind → Type 0
IsOfKind least i line ZeroOld = (i ≡ least) × (line.old ≡ 0)
IsOfKind least i line Least = i ≡ least
IsOfKind least i line (Boot c) = (i ≢ least) × (c < 2 ^ 31) × (line.cell ≡ c + 1) × (line.old ≡ 0)
IsOfKind least i line (Within m) = (i ≢ least) × (m ≤ 31)

-- the least line is one of these, and each line is of its kind
pub record AreOfKinds (checks : Checks) (lines : List Line) : Type 0 where
  pub least : checks.least < length lines
  pub kinds : (i : ℕ) → i < length lines → IsOfKind checks.least i (number_in lines i) (checks.kind i)

-- ---- and so that they are complete
-- a line of a cell is among these
pub record HasCell (lines : List Line) (c : ℕ) : Type 0 where
  pub place : ℕ
  pub below : place < length lines
  pub is : (number_in lines place).cell ≡ c

-- the predecessor of line i is as near as its kind says: a `Boot` line is the first of its cell and the cell before is in
-- use; m bits of reach are 31, or count all earlier lines where the cell before is in use
abbrev pub IsNear : List Line → ℕ → Kind → Type 0
IsNear lines i ZeroOld = Unit {0}
IsNear lines i Least = Unit {0}
IsNear lines i (Boot c) = HasCell lines c × ((j : ℕ) → j < i → (number_in lines j).cell ≢ (number_in lines i).cell)
IsNear lines i (Within m) = (m ≡ 31) ⊎ ((i < 2 ^ m) × ((c : ℕ) × ((number_in lines i).cell ≡ c + 1) × HasCell lines c))

-- no line's key is below that of the least line, and each line is near its predecessor
pub record AreNear (checks : Checks) (lines : List Line) : Type 0 where
  pub least : (i : ℕ) → i < length lines → key (number_in lines checks.least) ≤ key (number_in lines i)
  pub kinds : (i : ℕ) → i < length lines → IsNear lines i (checks.kind i)
