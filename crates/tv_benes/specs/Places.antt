-- Where the wires of a network's items and outputs stand. Each switch makes five wires, in the order of the switches: its
-- bit, the two numbers that it passes first, and the two that it passes second.
use Rattle.std.specs.Prelude.{ℕ, ◌+◌, ◌-◌, ◌*◌, ◌^◌, ◌<◌, ◌≤◌, ◌==◌, if◌then◌else◌, length}
use Rattle.tv_benes.specs.Through.{alternating, missing}
use Rattle.tv_benes.specs.declared.places.ColumnItems.{ColumnItems}
use Rattle.tv_benes.specs.declared.places.ColumnItems.TheVariants.{Given, Row, Joined}
use Rattle.tv_benes.specs.declared.places.Ends.{Ends}
use Rattle.tv_benes.specs.declared.shape.Net.{Net}
use Rattle.tv_benes.specs.declared.shape.Net.TheVariants.{Benes, Waksman}
use Rattle.tv_core.specs.Combinations.{top, wire}
use Rattle.tv_core.specs.Normal.{IsNormal}
use Rattle.tv_core.specs.declared.lines.Pair.{Pair}

-- two wires that follow each other
abbrev pub wires_at : ℕ → Pair
wires_at w = record { first = wire w; second = wire (w + 1) }

-- every fifth wire, w being the first
abbrev pub fifth : ℕ → ℕ → ℕ
fifth w j = w + 5 * j

-- every fifth pair of wires: what the switches of a column pass first, or second
abbrev pub row : ℕ → ℕ → Pair
row w j = wires_at (fifth w j)

-- ---- outputs
-- the first wire of output i
abbrev pub output_wire : Ends → ℕ → ℕ
output_wire o i = if i == 0 then o.first else if i == 1 then o.second else alternating (fifth (o.others + 1)) (fifth (o.others + 3)) (i - 2)

-- output i
abbrev pub output : Ends → ℕ → Pair
output o i = wires_at (output_wire o i)

-- the outputs of a whole column whose wires begin at g
abbrev pub column_outputs : ℕ → Ends
column_outputs g = record { first = g + 1; second = g + 3; others = g + 5 }

-- those of a last column whose wires begin at g, over the outputs of the two networks before it
abbrev pub last_outputs : Net → ℕ → Ends → Ends → Ends
last_outputs Benes g upper lower = column_outputs g
last_outputs Waksman g upper lower = record { first = upper.first; second = lower.first; others = g }

-- item i of a last column: outputs of the two networks in turn, but for those that pass
abbrev pub last_pair : Net → Ends → Ends → ℕ → Pair
last_pair net upper lower i = alternating (output upper) (output lower) (i + 2 * missing net)

-- ---- the items of a column: those of the inputs, whose items and their number are given; or wires
abbrev pub item_in : {I : Type 0} → (I → ℕ → Pair) → ColumnItems I → ℕ → Pair
item_in pair (Given inputs) = pair inputs.now
item_in pair (Row w) = row w
item_in pair (Joined net upper lower) = last_pair net upper.now lower.now

abbrev pub count_in : {I : Type 0} → (I → ℕ) → ColumnItems I → ℕ
count_in count (Given inputs) = count inputs.now
count_in count (Row w) = 2 ^ 31
count_in count (Joined net upper lower) = 2 ^ 31

-- ---- bounds
-- two combinations of at most 64 terms over wires below `wires`
pub record IsPairMade (pair : Pair) (wires : ℕ) : Type 0 where
  pub first : top pair.first ≤ wires
  pub second : top pair.second ≤ wires
  pub first_short : length pair.first ≤ 64
  pub second_short : length pair.second ≤ 64

-- the items at places below count are combinations of at most 64 terms over wires below `wires`
pub record ArePairsMade (pair : ℕ → Pair) (count wires : ℕ) : Type 0 where
  pub first : (i : ℕ) → i < count → top (pair i).first ≤ wires
  pub second : (i : ℕ) → i < count → top (pair i).second ≤ wires
  pub first_short : (i : ℕ) → i < count → length (pair i).first ≤ 64
  pub second_short : (i : ℕ) → i < count → length (pair i).second ≤ 64

-- a pair of normal combinations over wires below `wires`
pub record IsNormalPair (pair : Pair) (wires : ℕ) : Type 0 where
  pub first : IsNormal pair.first
  pub second : IsNormal pair.second
  pub first_below : top pair.first ≤ wires
  pub second_below : top pair.second ≤ wires

-- the outputs below count are wires below `wires`
abbrev pub AreBelow : Ends → ℕ → ℕ → Type 0
AreBelow o count wires = (i : ℕ) → i < count → output_wire o i + 1 < wires
