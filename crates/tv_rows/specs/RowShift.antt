-- A shift to the right on a row of twice a word's width: the row's number times a power of 2 is 2 ^ w times the word. One to the
-- left is the product of the word and the power.
use Rattle.std.specs.Prelude.{◌≡◌, ℕ, ◌+◌, ◌-◌, ◌*◌, ◌/◌, ◌%◌, ◌^◌, ◌<◌, nat_lt, if◌then◌else◌, List, [], ◌∷◌, length, slice_index}
use Rattle.tv_bits.specs.DoubleRow.{IsRow, whole, row_number}
use Rattle.tv_bits.specs.Gate.{gated_of}
use Rattle.tv_bits.specs.Times.{times_of, times_values}
use Rattle.tv_bits.specs.ZeroSign.{sign_at_zero}
use Rattle.tv_bits.specs.declared.double_rows.DoubleRow.{DoubleRow}
use Rattle.tv_core.specs.Circuits.{Circuit, ◌>>=◌}
use Rattle.tv_core.specs.Combinations.{wire}
use Rattle.tv_core.specs.Constraints.{Combination, value}
use Rattle.tv_core.specs.Laws.{Assigns, Meets, HasFrom, Fills, InField}
use Rattle.tv_core.specs.Meanings.{terms_in}
use Rattle.tv_core.specs.declared.field.TheConstants.{P}
use Rattle.tv_word.specs.Operations.{mull_result, shl_result, shr_result}
use Rattle.tv_word.specs.Widths.{IsWidth}

-- the halves of the row for a word v shifted to the right by m, which is v 2 ^ (w - m)
abbrev pub right_low : ℕ → ℕ → ℕ → ℕ
right_low w v m = v * 2 ^ (w - m) % 2 ^ w

abbrev pub right_high : ℕ → ℕ → ℕ
right_high v m = v / 2 ^ m

-- the row's halves are these
pub record IsRightShift (w : ℕ) (z : List ℕ) (row : DoubleRow) (v m : ℕ) : Type 0 where
  pub low : slice_index z row.low ≡ right_low w v m
  pub high : slice_index z row.high ≡ right_high v m

-- 2 ^ w times a wire
abbrev pub raised : ℕ → ℕ → Combination
raised w v = (2 ^ w % P, v) ∷ []

-- under the gate, the product of the row's number and the wire power is 2 ^ w times the wire v
unfoldable pub right_shift_of : ℕ → Combination → ℕ → ℕ → DoubleRow → Circuit (Unit {0})
right_shift_of w gate v power row = do
  product ← times_of (row_number w row) (wire power)
  gated_of gate (raised w v) (wire product)

-- the value of the wire that is made: the product
abbrev pub right_shift_values : ℕ → ℕ → ℕ → ℕ → List ℕ
right_shift_values w low high power = times_values (whole w low high) power

-- where the gate is 1 and the power is 2 ^ m, a row that satisfies the constraints is the word shifted by m
abbrev pub RightShiftIsSound : Type 0
RightShiftIsSound = (w : ℕ) → IsWidth w → (z : List ℕ) (next : ℕ) (gate : Combination) (v power : ℕ) (row : DoubleRow) (m : ℕ) → Assigns z → value gate z ≡ 1
    → slice_index z v < 2 ^ w → m < w → slice_index z power ≡ 2 ^ m → IsRow w (slice_index z row.low) (slice_index z row.high)
    → Meets z (right_shift_of w gate v power row next).list → IsRightShift w z row (slice_index z v) m

-- a shifted word is a row; with the value of the wire that was made, a row that holds it satisfies the constraints, and where the
-- gate is 0 any row does
pub record RightShiftIsComplete : Type 0 where
  pub row : (w : ℕ) → IsWidth w → (v m : ℕ) → v < 2 ^ w → m < w → IsRow w (right_low w v m) (right_high v m)
  pub on : (w : ℕ) → IsWidth w → (z : List ℕ) (next : ℕ) (gate : Combination) (v power : ℕ) (row : DoubleRow) (m : ℕ) → Assigns z
      → slice_index z v < 2 ^ w → m < w → slice_index z power ≡ 2 ^ m → IsRightShift w z row (slice_index z v) m
      → HasFrom z next (right_shift_values w (slice_index z row.low) (slice_index z row.high) (slice_index z power))
      → Meets z (right_shift_of w gate v power row next).list
  pub off : (w : ℕ) (z : List ℕ) (next : ℕ) (gate : Combination) (v power : ℕ) (row : DoubleRow) → Assigns z → value gate z ≡ 0
      → HasFrom z next (right_shift_values w (slice_index z row.low) (slice_index z row.high) (slice_index z power))
      → Meets z (right_shift_of w gate v power row next).list

-- where it ends, and that the value is one number of the field for the wire that is made
pub record RightShiftSizes : Type 0 where
  pub end : (w : ℕ) (gate : Combination) (v power : ℕ) (row : DoubleRow) (next : ℕ) → (right_shift_of w gate v power row next).next ≡ next + 1
  pub fills : (w : ℕ) (gate : Combination) (v power : ℕ) (row : DoubleRow) (low high k : ℕ)
      → Fills (right_shift_of w gate v power row) (right_shift_values w low high k)
  pub in_field : (w low high k : ℕ) → InField (right_shift_values w low high k)

-- how many constraints and terms are put
pub record RightShiftCosts : Type 0 where
  pub constraints : (w : ℕ) (gate : Combination) (v power : ℕ) (row : DoubleRow) (next : ℕ) → length (right_shift_of w gate v power row next).list ≡ 2
  pub terms : (w : ℕ) (gate : Combination) (v power : ℕ) (row : DoubleRow) (next : ℕ) → terms_in (right_shift_of w gate v power row next).list ≡ length gate + 6

-- ---- by any distance
-- the word that is shifted: 0 where the distance a reaches the width
abbrev pub shifted_word : ℕ → ℕ → ℕ → ℕ
shifted_word w s a = if nat_lt a w then s else 0

-- this word shifted by what is left of the distance is the word shifted by the distance;
-- it is the word times the sign 1 where the distance has no width in it
pub record ShiftsByAnyDistance : Type 0 where
  pub left : (w s a : ℕ) → mull_result w (shifted_word w s a) (2 ^ (a % w)) ≡ shl_result w s a
  pub right : (w s a : ℕ) → right_high (shifted_word w s a) (a % w) ≡ shr_result w s a
  pub word : (w : ℕ) → IsWidth w → (s a : ℕ) → s < 2 ^ w → sign_at_zero (a / w) 1 * s % P ≡ shifted_word w s a
