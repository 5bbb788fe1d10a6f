-- A line checked against its predecessor in address order, of which the item is known: the pair of its cell, and of its
-- time and its new word.
use Rattle.std.specs.Prelude.{◌≡◌, ℕ, ◌+◌, ◌-◌, ◌*◌, ◌^◌, ◌<◌, ◌≤◌, ◌==◌, if◌then◌else◌, List, [], ◌∷◌, ◌++◌, length}
use Rattle.tv_bits.specs.Bits.{bits_combination, bits_values, new_bits_of}
use Rattle.tv_bits.specs.Times.{kept_of}
use Rattle.tv_bits.specs.declared.bit_wires.Bits.{Bits}
use Rattle.tv_core.specs.Circuits.{Circuit, put, ◌>>=◌}
use Rattle.tv_core.specs.Combinations.{wire, constant, scaled, top}
use Rattle.tv_core.specs.Constraints.{Combination}
use Rattle.tv_core.specs.Laws.{Assigns, Meets, HasFrom, Fills, InField}
use Rattle.tv_core.specs.Lines.{Line, pair_value}
use Rattle.tv_core.specs.Meanings.{terms_in}
use Rattle.tv_core.specs.Normal.{normal, AreNormal}
use Rattle.tv_core.specs.declared.field.TheConstants.{P}
use Rattle.tv_core.specs.declared.lines.LineLc.{LineLc}
use Rattle.tv_core.specs.declared.lines.Pair.{Pair}
use Rattle.tv_lines.specs.Ordered.{Follows, key}
use Rattle.tv_lines.specs.PackedLines.{LineInRange, line_value, packed_item, time_bits}
use Rattle.tv_lines.specs.Compact.{cell_lc, word_lc}
use Rattle.tv_lines.specs.declared.compact.CompactLine.{CompactLine}

-- ---- the inputs
-- the parts of a compact line that are checked are made of wires below a number
pub record IsLineMade (wires : ℕ) (line : CompactLine) : Type 0 where
  pub cell : top (cell_lc line.cell) ≤ wires
  pub old : top (word_lc line.old) ≤ wires

-- an item's combinations have at most 32 terms each, over wires below a number
pub record IsItemMade (wires : ℕ) (item : Pair) : Type 0 where
  pub first : top item.first ≤ wires
  pub second : top item.second ≤ wires
  pub first_short : length item.first ≤ 32
  pub second_short : length item.second ≤ 32

-- ---- the circuit
-- x less 2 ^ 32 times y, made normal: a line's combinations may have a coefficient 0, or the constant wire where the
-- others have it too
abbrev pub less_above : Combination → Combination → Combination
less_above x y = normal (x ++ scaled (P - 2 ^ 32) y)

-- 2 ^ 32 times (1 + a cell), less the line's old word and 2 ^ 32 times its cell
abbrev pub cell_excess : LineLc → Combination → Combination
cell_excess line cell = less_above ((constant (2 ^ 32) ++ cell) ++ scaled (P - 1) line.old) line.cell

-- by how much 2 ^ 32 times (1 + reach + the item's cell) exceeds the line's cell above its old word. The reach's bits
-- are new wires, which come last
abbrev pub excess : Bits → LineLc → Pair → Combination
excess reach line item = cell_excess line item.first ++ scaled (2 ^ 32) (bits_combination reach.first reach.n)

-- the item's cell less the line's, 2 ^ 32 times
abbrev pub cell_difference : LineLc → Pair → Combination
cell_difference line item = less_above item.first line.cell

-- the item's new word and its time less the line's, 2 ^ 32 times, and a new wire
abbrev pub time_difference : ℕ → LineLc → Pair → Combination
time_difference e line item = less_above item.second line.time ++ wire e

-- the wire is 0, or both differences are
unfoldable pub either_of : ℕ → LineLc → Pair → Circuit (Unit {0})
either_of e line item = do
  _ ← put (wire e) (cell_difference line item) []
  put (wire e) (time_difference e line item) []

-- the line follows that of the item, by a reach of m bits
unfoldable pub follows_of : ℕ → LineLc → Pair → Circuit (Unit {0})
follows_of m line item = do
  reach ← new_bits_of m
  e ← kept_of (excess reach line item)
  either_of e line item

-- ---- the values
-- how far l is after p, less 1: in cells, or in the same cell in time
abbrev pub reach_between : Line → Line → ℕ
reach_between p l = if p.cell == l.cell then l.time - p.time - 1 else l.cell - p.cell - 1

-- the excess: 0 where the cells differ
abbrev pub excess_between : Line → Line → ℕ
excess_between p l = if p.cell == l.cell then 2 ^ 32 * (l.time - p.time) - l.old else 0

-- the reach's bits, and the excess
abbrev pub follows_values : ℕ → Line → Line → List ℕ
follows_values m p l = bits_values (reach_between p l) m ++ excess_between p l ∷ []

-- ---- the laws
-- in an assignment that satisfies the constraints the line follows that of the item
abbrev pub FollowsIsSound : Type 0
FollowsIsSound = (z : List ℕ) (next m : ℕ) (line : LineLc) (item : Pair) (p l : Line) → m ≤ 31 → Assigns z
    → line_value z line ≡ l → pair_value z item ≡ packed_item p → LineInRange p → LineInRange l → Meets z (follows_of m line item next).list → Follows p l

-- where it does, and the reach has m bits, an assignment that has these values at the wires that were made satisfies the constraints
abbrev pub FollowsIsComplete : Type 0
FollowsIsComplete = (z : List ℕ) (next m : ℕ) (line : LineLc) (item : Pair) (p l : Line) → m ≤ 31 → Assigns z
    → line_value z line ≡ l → pair_value z item ≡ packed_item p → LineInRange p → LineInRange l → Follows p l → reach_between p l < 2 ^ m
    → HasFrom z next (follows_values m p l) → Meets z (follows_of m line item next).list

-- as many values as wires, and each below P for lines in range
pub record FollowsSizes : Type 0 where
  pub end : (m : ℕ) (line : LineLc) (item : Pair) (next : ℕ) → (follows_of m line item next).next ≡ next + m + 1
  pub fills : (m : ℕ) (line : LineLc) (item : Pair) (p l : Line) → Fills (follows_of m line item) (follows_values m p l)
  pub in_field : (m : ℕ) (p l : Line) → LineInRange l → InField (follows_values m p l)

-- how many terms they have where the item is two wires after those of the line: each part over the line has one more then
abbrev pub follows_terms : ℕ → LineLc → ℕ
follows_terms m line = 4 * m + 8 + length (cell_excess line []) + length (less_above [] line.cell) + length (less_above [] line.time)

-- how many constraints it emits, and how many terms they have
pub record FollowsCosts : Type 0 where
  pub constraints : (m : ℕ) (line : LineLc) (item : Pair) (next : ℕ) → length (follows_of m line item next).list ≡ m + 3
  pub terms : (m : ℕ) (line : LineLc) (u v next : ℕ) → 1 ≤ u → top line.cell ≤ u → top line.old ≤ u → top line.time ≤ v
      → terms_in (follows_of m line (record { first = wire u; second = wire v }) next).list ≡ follows_terms m line

-- what it emits is normal, whatever the line's combinations are, where all of them and the item's are of wires below the
-- next
abbrev pub FollowsIsNormal : Type 0
FollowsIsNormal = (m : ℕ) (line : LineLc) (item : Pair) (next : ℕ) → 1 ≤ next → m ≤ 31 → top line.cell ≤ next → top line.time ≤ next → top line.old ≤ next
    → top item.first ≤ next → top item.second ≤ next → AreNormal (follows_of m line item next).list

-- 31 bits of reach are enough for lines in range; and k bits where the cell is at most the one after p's, and the time has k bits
pub record FollowsReaches : Type 0 where
  pub far : (p l : Line) → LineInRange l → reach_between p l < 2 ^ 31
  pub near : (k : ℕ) (p l : Line) → l.cell ≤ p.cell + 1 → l.time < 2 ^ k → reach_between p l < 2 ^ k

-- the key rises from a line to one that follows it
abbrev pub FollowsRises : Type 0
FollowsRises = (p l : Line) → p.time < 2 ^ time_bits → l.time < 2 ^ time_bits → Follows p l → key p < key l
