-- The sum of two words in a row of twice their width.
use Rattle.std.specs.Prelude.{◌≡◌, ℕ, ◌+◌, ◌^◌, ◌<◌, List, [], ◌++◌, length, slice_index}
use Rattle.tv_bits.specs.DoubleRow.{IsRow, row_number}
use Rattle.tv_bits.specs.Gate.{gated_of}
use Rattle.tv_bits.specs.declared.double_rows.DoubleRow.{DoubleRow}
use Rattle.tv_core.specs.Circuits.{Circuit}
use Rattle.tv_core.specs.Combinations.{wire}
use Rattle.tv_core.specs.Constraints.{Combination, value}
use Rattle.tv_core.specs.Laws.{Assigns, Meets, Fills, InField}
use Rattle.tv_core.specs.Meanings.{terms_in}
use Rattle.tv_word.specs.Operations.{add_result, add_flag}
use Rattle.tv_word.specs.Widths.{IsWidth}
use Rattle.tv_word.specs.Word.{flag_of}

-- the carry of a sum, as a number
abbrev pub carry : ℕ → ℕ → ℕ → ℕ
carry w x y = flag_of (add_flag w x y)

-- the row's halves are the sum of two words modulo 2 ^ w, and its carry
pub record IsRowSum (w : ℕ) (z : List ℕ) (row : DoubleRow) (a b : ℕ) : Type 0 where
  pub low : slice_index z row.low ≡ add_result w a b
  pub high : slice_index z row.high ≡ carry w a b

-- under the gate, the sum of two wires is the number of a row
unfoldable pub row_sum_of : ℕ → Combination → ℕ → ℕ → DoubleRow → Circuit (Unit {0})
row_sum_of w gate x y row = gated_of gate (wire x ++ wire y) (row_number w row)

-- where the gate is 1 and the wires hold words, a row that satisfies the constraints is their sum
abbrev pub RowSumIsSound : Type 0
RowSumIsSound = (w : ℕ) → IsWidth w → (z : List ℕ) (next : ℕ) (gate : Combination) (x y : ℕ) (row : DoubleRow) → Assigns z → value gate z ≡ 1
    → slice_index z x < 2 ^ w → slice_index z y < 2 ^ w → IsRow w (slice_index z row.low) (slice_index z row.high)
    → Meets z (row_sum_of w gate x y row next).list → IsRowSum w z row (slice_index z x) (slice_index z y)

-- the sum of two words is a row, a row that holds it satisfies the constraints, and where the gate is 0 any row does
pub record RowSumIsComplete : Type 0 where
  pub row : (w : ℕ) → IsWidth w → (a b : ℕ) → a < 2 ^ w → b < 2 ^ w → IsRow w (add_result w a b) (carry w a b)
  pub on : (w : ℕ) → IsWidth w → (z : List ℕ) (next : ℕ) (gate : Combination) (x y : ℕ) (row : DoubleRow) → Assigns z
      → slice_index z x < 2 ^ w → slice_index z y < 2 ^ w → IsRowSum w z row (slice_index z x) (slice_index z y) → Meets z (row_sum_of w gate x y row next).list
  pub off : (w : ℕ) (z : List ℕ) (next : ℕ) (gate : Combination) (x y : ℕ) (row : DoubleRow) → value gate z ≡ 0 → Meets z (row_sum_of w gate x y row next).list

-- it makes no wire, and so has no value
pub record RowSumSizes : Type 0 where
  pub end : (w : ℕ) (gate : Combination) (x y : ℕ) (row : DoubleRow) (next : ℕ) → (row_sum_of w gate x y row next).next ≡ next
  pub fills : (w : ℕ) (gate : Combination) (x y : ℕ) (row : DoubleRow) → Fills (row_sum_of w gate x y row) []
  pub in_field : InField []

-- how many constraints and terms there are
pub record RowSumCosts : Type 0 where
  pub constraints : (w : ℕ) (gate : Combination) (x y : ℕ) (row : DoubleRow) (next : ℕ) → length (row_sum_of w gate x y row next).list ≡ 1
  pub terms : (w : ℕ) (gate : Combination) (x y : ℕ) (row : DoubleRow) (next : ℕ) → terms_in (row_sum_of w gate x y row next).list ≡ length gate + 4
