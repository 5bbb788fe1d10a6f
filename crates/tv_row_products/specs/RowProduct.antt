-- The product of two words in a row of twice their width.
use Rattle.std.specs.Prelude.{◌≡◌, ℕ, ◌+◌, ◌^◌, ◌<◌, List, length, slice_index}
use Rattle.tv_bits.specs.DoubleRow.{IsRow, row_number}
use Rattle.tv_bits.specs.Gate.{gated_of}
use Rattle.tv_bits.specs.Times.{times_of, times_values}
use Rattle.tv_bits.specs.declared.double_rows.DoubleRow.{DoubleRow}
use Rattle.tv_core.specs.Circuits.{Circuit, ◌>>=◌}
use Rattle.tv_core.specs.Combinations.{wire}
use Rattle.tv_core.specs.Constraints.{Combination, value}
use Rattle.tv_core.specs.Laws.{Assigns, Meets, HasFrom, Fills, InField}
use Rattle.tv_core.specs.Meanings.{terms_in}
use Rattle.tv_word.specs.Operations.{mull_result, umulh_result}
use Rattle.tv_word.specs.Widths.{IsWidth}

-- the row's halves are those of the product of two words
pub record IsRowProduct (w : ℕ) (z : List ℕ) (row : DoubleRow) (a b : ℕ) : Type 0 where
  pub low : slice_index z row.low ≡ mull_result w a b
  pub high : slice_index z row.high ≡ umulh_result w a b

-- a new wire that is the product of two wires; under the gate, it is the number of a row
unfoldable pub row_product_of : ℕ → Combination → ℕ → ℕ → DoubleRow → Circuit (Unit {0})
row_product_of w gate x y row = do
  product ← times_of (wire x) (wire y)
  gated_of gate (row_number w row) (wire product)

-- the value of the wire that is made
abbrev pub row_product_values : ℕ → ℕ → List ℕ
row_product_values a b = times_values a b

-- where the gate is 1 and the wires hold words, a row that satisfies the constraints is their product
abbrev pub RowProductIsSound : Type 0
RowProductIsSound = (w : ℕ) → IsWidth w → (z : List ℕ) (next : ℕ) (gate : Combination) (x y : ℕ) (row : DoubleRow) → Assigns z → value gate z ≡ 1
    → slice_index z x < 2 ^ w → slice_index z y < 2 ^ w → IsRow w (slice_index z row.low) (slice_index z row.high)
    → Meets z (row_product_of w gate x y row next).list → IsRowProduct w z row (slice_index z x) (slice_index z y)

-- the product of two words is a row; with the value of the wire that was made, a row that holds it satisfies the constraints,
-- and where the gate is 0 any row does
pub record RowProductIsComplete : Type 0 where
  pub row : (w : ℕ) → IsWidth w → (a b : ℕ) → a < 2 ^ w → b < 2 ^ w → IsRow w (mull_result w a b) (umulh_result w a b)
  pub on : (w : ℕ) (z : List ℕ) (next : ℕ) (gate : Combination) (x y : ℕ) (row : DoubleRow) → Assigns z
      → IsRowProduct w z row (slice_index z x) (slice_index z y) → HasFrom z next (row_product_values (slice_index z x) (slice_index z y))
      → Meets z (row_product_of w gate x y row next).list
  pub off : (w : ℕ) (z : List ℕ) (next : ℕ) (gate : Combination) (x y : ℕ) (row : DoubleRow) → Assigns z → value gate z ≡ 0
      → HasFrom z next (row_product_values (slice_index z x) (slice_index z y)) → Meets z (row_product_of w gate x y row next).list

-- where it ends, and that the values are one number of the field for each wire that is made
pub record RowProductSizes : Type 0 where
  pub end : (w : ℕ) (gate : Combination) (x y : ℕ) (row : DoubleRow) (next : ℕ) → (row_product_of w gate x y row next).next ≡ next + 1
  pub fills : (w : ℕ) (gate : Combination) (x y : ℕ) (row : DoubleRow) (a b : ℕ) → Fills (row_product_of w gate x y row) (row_product_values a b)
  pub in_field : (a b : ℕ) → InField (row_product_values a b)

-- how many constraints and terms there are
pub record RowProductCosts : Type 0 where
  pub constraints : (w : ℕ) (gate : Combination) (x y : ℕ) (row : DoubleRow) (next : ℕ) → length (row_product_of w gate x y row next).list ≡ 2
  pub terms : (w : ℕ) (gate : Combination) (x y : ℕ) (row : DoubleRow) (next : ℕ) → terms_in (row_product_of w gate x y row next).list ≡ length gate + 6
