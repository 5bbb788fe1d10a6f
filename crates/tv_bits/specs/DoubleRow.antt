-- A row of bits of twice a word's width, whose halves are words; an equation of its number modulo P is one of whole numbers.
use Rattle.std.specs.Prelude.{◌≡◌, ℕ, ◌+◌, ◌-◌, ◌*◌, ◌%◌, ◌^◌, ◌<◌, List, [], ◌∷◌, ◌++◌, length, slice_index}
use Rattle.tv_core.specs.Circuits.{Circuit, pure, ◌>>=◌}
use Rattle.tv_core.specs.Combinations.{wire, scaled}
use Rattle.tv_core.specs.Constraints.{Combination, value}
use Rattle.tv_core.specs.Laws.{Assigns, Meets, HasFrom, Fills, InField}
use Rattle.tv_core.specs.Meanings.{terms_in}
use Rattle.tv_core.specs.declared.field.TheConstants.{P}
use Rattle.tv_bits.specs.Bit.{IsBit}
use Rattle.tv_bits.specs.Bits.{HasBits, bits_combination, bits_values, new_bits_of}
use Rattle.tv_bits.specs.Ratio.{ratio_of, ratio_values}
use Rattle.tv_bits.specs.Times.{kept_of}
use Rattle.tv_bits.specs.declared.double_rows.DoubleRow.{DoubleRow}
use Rattle.tv_word.specs.Widths.{IsWidth}

-- the halves of a row are words, of which the high one has all bits set only where the low one is 0: so its number is below P
pub record IsRow (w low high : ℕ) : Type 0 where
  pub low_word : low < 2 ^ w
  pub high_word : high < 2 ^ w
  pub edge : high ≡ 2 ^ w - 1 → low ≡ 0

-- the number of a row, and the combination that is it
abbrev pub whole : ℕ → ℕ → ℕ → ℕ
whole w low high = low + 2 ^ w * high

abbrev pub row_number : ℕ → DoubleRow → Combination
row_number w row = (1, row.low) ∷ (2 ^ w % P, row.high) ∷ []

-- the bits of a row represent the words that its wires hold
pub record HasRowBits (w : ℕ) (z : List ℕ) (row : DoubleRow) : Type 0 where
  pub low : HasBits z row.first w (slice_index z row.low)
  pub high : HasBits z (row.first + w) w (slice_index z row.high)

-- 2 w new bits, and the two words that they represent as wires
unfoldable pub row_wires_of : ℕ → Circuit DoubleRow
row_wires_of w = do
  made ← new_bits_of (2 * w)
  low ← kept_of (bits_combination made.first w)
  high ← kept_of (bits_combination (made.first + w) w)
  pure (record { first = made.first; low = low; high = high })

-- the high word less 2 ^ w - 1, and less 1 more where the row is signed; as a combination, and of numbers
abbrev pub above_edge : ℕ → Combination → ℕ → Combination
above_edge w signed high = (P - (2 ^ w - 1), 0) ∷ (scaled (P - 1) signed ++ wire high)

abbrev pub above_edge_in : ℕ → ℕ → ℕ → ℕ
above_edge_in w high signed = (high + (P - (2 ^ w - 1 + signed))) % P

-- a row: some wire times the high word less 2 ^ w - 1 is the low word, unless the row is signed
unfoldable pub double_row_of : ℕ → Combination → Circuit DoubleRow
double_row_of w signed = do
  row ← row_wires_of w
  _ ← ratio_of (above_edge w signed row.high) (wire row.low)
  pure row

-- the values of the wires that are made
abbrev pub double_row_values : ℕ → ℕ → ℕ → ℕ → List ℕ
double_row_values w low high signed = bits_values low w ++ (bits_values high w ++ (low ∷ high ∷ ratio_values (above_edge_in w high signed) low))

-- in an assignment that satisfies the constraints the bits represent the wires' words, which are a row unless it is signed
pub record DoubleRowIsSound : Type 0 where
  pub decomposes : (w : ℕ) → IsWidth w → (z : List ℕ) (next : ℕ) (signed : Combination) → Assigns z → Meets z (double_row_of w signed next).list
      → HasRowBits w z (double_row_of w signed next).answer
  pub row : (w : ℕ) → IsWidth w → (z : List ℕ) (next : ℕ) (signed : Combination) → Assigns z → value signed z ≡ 0 → Meets z (double_row_of w signed next).list
      → IsRow w (slice_index z (double_row_of w signed next).answer.low) (slice_index z (double_row_of w signed next).answer.high)

-- an assignment that has two words' values at the wires that were made satisfies the constraints, if they are a row or it is signed
abbrev pub DoubleRowIsComplete : Type 0
DoubleRowIsComplete = (w : ℕ) → IsWidth w → (z : List ℕ) (next : ℕ) (signed : Combination) (low high : ℕ) → Assigns z → low < 2 ^ w → high < 2 ^ w
    → IsBit (value signed z) → (value signed z ≡ 0 → IsRow w low high) → HasFrom z next (double_row_values w low high (value signed z))
    → Meets z (double_row_of w signed next).list

-- which wires are returned, and that the values are one number of the field for each wire that is made
pub record DoubleRowSizes : Type 0 where
  pub answer : (w : ℕ) (signed : Combination) (next : ℕ)
      → (double_row_of w signed next).answer ≡ record { first = next; low = next + 2 * w; high = next + (2 * w + 1) }
  pub end : (w : ℕ) (signed : Combination) (next : ℕ) → (double_row_of w signed next).next ≡ next + (2 * w + 3)
  pub fills : (w : ℕ) (signed : Combination) (low high v : ℕ) → Fills (double_row_of w signed) (double_row_values w low high v)
  pub in_field : (w low high v : ℕ) → low < P → high < P → InField (double_row_values w low high v)

-- how many constraints and terms there are
pub record DoubleRowCosts : Type 0 where
  pub constraints : (w : ℕ) (signed : Combination) (next : ℕ) → length (double_row_of w signed next).list ≡ 2 * w + 3
  pub terms : (w : ℕ) (signed : Combination) (next : ℕ) → terms_in (double_row_of w signed next).list ≡ 8 * w + 8 + length signed
