-- Two lines that are neighbours in address order, and the first of all.
use Rattle.std.specs.Prelude.{◌≡◌, ℕ, ◌+◌, ◌-◌, ◌*◌, ◌%◌, ◌^◌, ◌<◌, ◌==◌, nat_lt, if◌then◌else◌, List, [], ◌∷◌, ◌++◌}
use Rattle.tv_bits.specs.Bits.{bits_values, new_bits_of}
use Rattle.tv_bits.specs.Number.{number_of}
use Rattle.tv_bits.specs.Order.{prefix_difference, first_difference}
use Rattle.tv_bits.specs.Prefixes.{zero_product_of, products_values, prefix}
use Rattle.tv_bits.specs.Times.{kept_of}
use Rattle.tv_bits.specs.Zero.{zero_of, zero_values}
use Rattle.tv_core.specs.Below.{each_below}
use Rattle.tv_core.specs.Circuits.{Circuit, put, ◌>>=◌}
use Rattle.tv_core.specs.Combinations.{wire, constant, less}
use Rattle.tv_core.specs.Constraints.{Combination}
use Rattle.tv_core.specs.Laws.{Assigns, Meets, HasFrom, Fills, InField}
use Rattle.tv_core.specs.Lines.{Line}
use Rattle.tv_core.specs.declared.field.TheConstants.{P}
use Rattle.tv_lines.specs.Ordered.{Follows, Ordered}
use Rattle.tv_lines.specs.PackedLines.{time_bits, LineInRange}
use Rattle.tv_lines.specs.UnpackedLines.{HasWidths, HasLineBits}
use Rattle.tv_lines.specs.declared.rows.LineBits.{LineBits}

-- how many bits a chunk has, and into how many chunks cells and times are cut
abbrev pub chunk : ℕ
chunk = 11

abbrev pub cell_chunks : ℕ
cell_chunks = 3

abbrev pub time_chunks : ℕ
time_chunks = 2

-- ---- the circuit
-- a new wire: by how much the second cell is above the first, modulo P
unfoldable pub apart_of : LineBits → LineBits → Circuit ℕ
apart_of before after = kept_of (less (number_of after.cell) (number_of before.cell))

-- where the cells are not apart the second old is the first new, and else it is 0
unfoldable pub carried_of : ℕ → LineBits → LineBits → Circuit (Unit {0})
carried_of apart before after = do
  same ← zero_of (wire apart)
  put (wire same) (number_of before.new) (number_of after.old)

-- a new wire that is from 1 to 2 ^ c
unfoldable pub size_of : ℕ → Circuit ℕ
size_of c = do
  bits ← new_bits_of c
  kept_of (number_of bits ++ constant 1)

-- by how much the second cell is above the first, both without their p lowest bits
abbrev pub cell_less : LineBits → LineBits → ℕ → Combination
cell_less before after p = less (prefix after.cell p) (prefix before.cell p)

-- the same for the keys, of which the p lowest bits are of the times
abbrev pub key_less : ℕ → LineBits → LineBits → ℕ → Combination
key_less apart before after p = less ((2 ^ (time_bits - p), apart) ∷ prefix after.time p) (prefix before.time p)

-- prefix number j, first of the cells and then of the keys
abbrev pub prefix_less : ℕ → LineBits → LineBits → ℕ → Combination
prefix_less apart before after j =
    if j == 0 then wire apart
    else if nat_lt j cell_chunks then cell_less before after (chunk * j)
    else key_less apart before after (chunk * (j - cell_chunks))

-- in some prefix the second is above the first by this size; cells and times are cut into chunks
unfoldable pub rises_of : ℕ → ℕ → LineBits → LineBits → Circuit (Unit {0})
rises_of apart size before after = zero_product_of (λ j. less (prefix_less apart before after j) (wire size)) (cell_chunks + time_chunks)

-- the second line follows the first
unfoldable pub sorted_pair_of : LineBits → LineBits → Circuit (Unit {0})
sorted_pair_of before after = do
  apart ← apart_of before after
  _ ← carried_of apart before after
  size ← size_of chunk
  rises_of apart size before after

-- the first line's old is 0
unfoldable pub first_line_of : LineBits → Circuit (Unit {0})
first_line_of line = put (number_of line.old) (constant 1) []

-- ---- the values
-- by how much the second cell is above the first, modulo P
abbrev pub cells_apart : Line → Line → ℕ
cells_apart l m = (m.cell + (P - l.cell)) % P

-- how far the shortest prefixes that differ are apart, of the cells or, where these are the same, of the times
abbrev pub size : Line → Line → ℕ
size l m = if l.cell == m.cell then first_difference chunk time_chunks m.time l.time else first_difference chunk cell_chunks m.cell l.cell

-- the differences of the prefixes, as numbers
abbrev pub key_less_in : Line → Line → ℕ → ℕ
key_less_in l m p = (2 ^ (time_bits - p) * cells_apart l m + prefix_difference m.time l.time p) % P

abbrev pub prefix_less_in : Line → Line → ℕ → ℕ
prefix_less_in l m j =
    if j == 0 then cells_apart l m
    else if nat_lt j cell_chunks then prefix_difference m.cell l.cell (chunk * j)
    else key_less_in l m (chunk * (j - cell_chunks))

abbrev pub factor_in : Line → Line → ℕ → ℕ
factor_in l m j = (prefix_less_in l m j + (P - size l m)) % P

-- a size's bits, those of one less, and the size
abbrev pub size_values : ℕ → List ℕ
size_values v = bits_values (v - 1) chunk ++ v ∷ []

-- the values of the wires that are made
abbrev pub sorted_pair_values : Line → Line → List ℕ
sorted_pair_values l m =
    cells_apart l m ∷ (zero_values (cells_apart l m) ++ (size_values (size l m) ++ products_values (factor_in l m) (cell_chunks + time_chunks)))

-- ---- the laws
-- in an assignment that satisfies the constraints for bits that represent two lines the second follows the first
abbrev pub SortedPairIsSound : Type 0
SortedPairIsSound = (z : List ℕ) (next : ℕ) (before after : LineBits) (l m : Line) → HasWidths before → HasWidths after → Assigns z
    → HasLineBits z before l → HasLineBits z after m → Meets z (sorted_pair_of before after next).list → Follows l m

-- where it does, an assignment that has these values at the wires that were made satisfies the constraints
abbrev pub SortedPairIsComplete : Type 0
SortedPairIsComplete = (z : List ℕ) (next : ℕ) (before after : LineBits) (l m : Line) → HasWidths before → HasWidths after → Assigns z
    → HasLineBits z before l → HasLineBits z after m → Follows l m → HasFrom z next (sorted_pair_values l m) → Meets z (sorted_pair_of before after next).list

-- as many values as wires, and each below P for lines in range
pub record SortedPairSizes : Type 0 where
  pub end : (before after : LineBits) (next : ℕ) → (sorted_pair_of before after next).next ≡ next + 18
  pub fills : (before after : LineBits) (l m : Line) → Fills (sorted_pair_of before after) (sorted_pair_values l m)
  pub in_field : (l m : Line) → LineInRange m → InField (sorted_pair_values l m)

-- an assignment satisfies the constraints for a line exactly where its old is 0
abbrev pub FirstLineIsSound : Type 0
FirstLineIsSound = (z : List ℕ) (next : ℕ) (bits : LineBits) (l : Line) → HasWidths bits → Assigns z → HasLineBits z bits l
    → Meets z (first_line_of bits next).list → l.old ≡ 0

abbrev pub FirstLineIsComplete : Type 0
FirstLineIsComplete = (z : List ℕ) (next : ℕ) (bits : LineBits) (l : Line) → HasWidths bits → Assigns z → HasLineBits z bits l
    → l.old ≡ 0 → Meets z (first_line_of bits next).list

-- it makes no wire
pub record FirstLineSizes : Type 0 where
  pub end : (bits : LineBits) (next : ℕ) → (first_line_of bits next).next ≡ next
  pub fills : (bits : LineBits) → Fills (first_line_of bits) []

-- the bits of n lines, of which the first is constrained to begin at 0 and each two neighbours to follow each other
pub record AreSorted (z : List ℕ) (n : ℕ) (bits : ℕ → LineBits) (line : ℕ → Line) : Type 0 where
  pub widths : (i : ℕ) → i < n → HasWidths (bits i)
  pub decomposes : (i : ℕ) → i < n → HasLineBits z (bits i) (line i)
  pub first_at : ℕ
  pub first : 0 < n → Meets z (first_line_of (bits 0) first_at).list
  pub pair_at : ℕ → ℕ
  pub pairs : (i : ℕ) → i + 1 < n → Meets z (sorted_pair_of (bits i) (bits (i + 1)) (pair_at i)).list

-- such lines are in address order
abbrev pub NeighboursAreOrdered : Type 0
NeighboursAreOrdered = (z : List ℕ) (n : ℕ) (bits : ℕ → LineBits) (line : ℕ → Line) → Assigns z → AreSorted z n bits line
    → Ordered (each_below n line)
