-- The quotient and the remainder of two words in a row of twice their width.
use Rattle.std.specs.Prelude.{◌≡◌, ℕ, ◌+◌, ◌-◌, ◌*◌, ◌%◌, ◌^◌, ◌<◌, List, [], ◌∷◌, ◌++◌, length, slice_index}
use Rattle.tv_bits.specs.Bit.{IsBit}
use Rattle.tv_bits.specs.Bits.{HasBits, bits_combination}
use Rattle.tv_bits.specs.DoubleRow.{IsRow}
use Rattle.tv_bits.specs.Gate.{gated_of}
use Rattle.tv_bits.specs.Times.{times_of, times_values}
use Rattle.tv_bits.specs.Zero.{zero_flag}
use Rattle.tv_bits.specs.declared.bit_wires.Bits.{Bits}
use Rattle.tv_bits.specs.declared.double_rows.DoubleRow.{DoubleRow}
use Rattle.tv_core.specs.Circuits.{Circuit, put, pure, ◌>>=◌}
use Rattle.tv_core.specs.Combinations.{wire}
use Rattle.tv_core.specs.Constraints.{Combination, value}
use Rattle.tv_core.specs.Laws.{Assigns, Meets, HasFrom, Fills, InField}
use Rattle.tv_core.specs.Meanings.{terms_in}
use Rattle.tv_core.specs.declared.field.TheConstants.{P}
use Rattle.tv_word.specs.Operations.{udiv_result, umod_result}
use Rattle.tv_word.specs.Widths.{IsWidth}

-- the row's low half is the remainder of a by b, its high half the quotient, and the wire is 1 exactly where b is 0
pub record IsRowDivision (z : List ℕ) (row : DoubleRow) (by_zero a b : ℕ) : Type 0 where
  pub rem : slice_index z row.low ≡ umod_result a b
  pub quot : slice_index z row.high ≡ udiv_result a b
  pub zero : slice_index z by_zero ≡ zero_flag b

-- by how much more than 1 the divisor, or 2 ^ w in place of 0, is above the remainder
abbrev pub below_divisor : ℕ → ℕ → ℕ → ℕ
below_divisor w a b = b + 2 ^ w * zero_flag b - 1 - umod_result a b

-- that number as a combination less x, and the number of some bits less x
abbrev pub room_below : ℕ → ℕ → ℕ → ℕ → DoubleRow → Combination
room_below w x y by_zero row = (P - 1, 0) ∷ (P - 1, x) ∷ (1, y) ∷ (2 ^ w % P, by_zero) ∷ (P - 1, row.low) ∷ []

abbrev pub bits_less : ℕ → ℕ → Bits → Combination
bits_less w x bits = (P - 1, x) ∷ bits_combination bits.first w

-- the wires of a division: the word that is divided, the one that divides it, and whether that is 0
pub record Dividing : Type 0 where
  pub x : ℕ
  pub y : ℕ
  pub by_zero : ℕ

-- a division with these wires
abbrev pub dividing : ℕ → ℕ → ℕ → Dividing
dividing x y by_zero = record { x = x; y = y; by_zero = by_zero }

-- two new wires: x where the divisor is 0, and else 0; and the high half times y, or times 1 where y is 0. Under the gate,
-- x is the sum of both and the low half. The bits are below_divisor under the gate, and else x
unfoldable pub row_division_of : ℕ → Combination → Dividing → Bits → DoubleRow → Circuit ℕ
row_division_of w gate words bits row = do
  kept ← times_of (wire words.by_zero) (wire words.x)
  product ← times_of (wire row.high) (wire words.y ++ wire words.by_zero)
  _ ← gated_of gate (wire words.x) (wire row.low ++ (wire kept ++ wire product))
  _ ← put gate (room_below w words.x words.y words.by_zero row) (bits_less w words.x bits)
  pure kept

-- the values of the wires that are made
abbrev pub row_division_values : ℕ → ℕ → ℕ → ℕ → List ℕ
row_division_values by_zero a high b = times_values by_zero a ++ times_values high ((b + by_zero) % P)

-- in an assignment that satisfies the constraints, the returned wire is the product of the two; where the gate is 1, the row is
-- the division of the words, and where it is 0 the bits represent x
pub record RowDivisionIsSound : Type 0 where
  pub kept : (w : ℕ) (z : List ℕ) (next : ℕ) (gate : Combination) (x y by_zero : ℕ) (bits : Bits) (row : DoubleRow) → Assigns z
      → Meets z (row_division_of w gate (dividing x y by_zero) bits row next).list
      → slice_index z (row_division_of w gate (dividing x y by_zero) bits row next).answer ≡ slice_index z by_zero * slice_index z x % P
  pub on : (w : ℕ) → IsWidth w → (z : List ℕ) (next : ℕ) (gate : Combination) (x y by_zero : ℕ) (bits : Bits) (row : DoubleRow) (v : ℕ) → Assigns z
      → value gate z ≡ 1 → IsBit (slice_index z by_zero) → slice_index z x < 2 ^ w → slice_index z y < 2 ^ w
      → IsRow w (slice_index z row.low) (slice_index z row.high) → HasBits z bits.first w v
      → Meets z (row_division_of w gate (dividing x y by_zero) bits row next).list → IsRowDivision z row by_zero (slice_index z x) (slice_index z y)
  pub off : (w : ℕ) → IsWidth w → (z : List ℕ) (next : ℕ) (gate : Combination) (x y by_zero : ℕ) (bits : Bits) (row : DoubleRow) (v : ℕ) → Assigns z
      → value gate z ≡ 0 → HasBits z bits.first w v → Meets z (row_division_of w gate (dividing x y by_zero) bits row next).list → slice_index z x ≡ v

-- the division of words is a row, and the bits' number a word; with the values of the wires that were made, a row that holds
-- the division satisfies the constraints, and where the gate is 0 any row does if the bits represent x
pub record RowDivisionIsComplete : Type 0 where
  pub row : (w : ℕ) → IsWidth w → (a b : ℕ) → a < 2 ^ w → b < 2 ^ w → IsRow w (umod_result a b) (udiv_result a b)
  pub bits : (w : ℕ) → IsWidth w → (a b : ℕ) → a < 2 ^ w → b < 2 ^ w → below_divisor w a b < 2 ^ w
  pub on : (w : ℕ) → IsWidth w → (z : List ℕ) (next : ℕ) (gate : Combination) (x y by_zero : ℕ) (bits : Bits) (row : DoubleRow) → Assigns z
      → value gate z ≡ 1 → slice_index z x < 2 ^ w → slice_index z y < 2 ^ w → IsRowDivision z row by_zero (slice_index z x) (slice_index z y)
      → HasBits z bits.first w (below_divisor w (slice_index z x) (slice_index z y))
      → HasFrom z next (row_division_values (slice_index z by_zero) (slice_index z x) (slice_index z row.high) (slice_index z y))
      → Meets z (row_division_of w gate (dividing x y by_zero) bits row next).list
  pub off : (w : ℕ) → IsWidth w → (z : List ℕ) (next : ℕ) (gate : Combination) (x y by_zero : ℕ) (bits : Bits) (row : DoubleRow) → Assigns z
      → value gate z ≡ 0 → HasBits z bits.first w (slice_index z x)
      → HasFrom z next (row_division_values (slice_index z by_zero) (slice_index z x) (slice_index z row.high) (slice_index z y))
      → Meets z (row_division_of w gate (dividing x y by_zero) bits row next).list

-- which wire is returned, and that the values are one number of the field for each wire that is made
pub record RowDivisionSizes : Type 0 where
  pub answer : (w : ℕ) (gate : Combination) (x y by_zero : ℕ) (bits : Bits) (row : DoubleRow) (next : ℕ)
      → (row_division_of w gate (dividing x y by_zero) bits row next).answer ≡ next
  pub end : (w : ℕ) (gate : Combination) (x y by_zero : ℕ) (bits : Bits) (row : DoubleRow) (next : ℕ)
      → (row_division_of w gate (dividing x y by_zero) bits row next).next ≡ next + 2
  pub fills : (w : ℕ) (gate : Combination) (x y by_zero : ℕ) (bits : Bits) (row : DoubleRow) (f a q b : ℕ)
      → Fills (row_division_of w gate (dividing x y by_zero) bits row) (row_division_values f a q b)
  pub in_field : (f a q b : ℕ) → InField (row_division_values f a q b)

-- how many constraints and terms there are
pub record RowDivisionCosts : Type 0 where
  pub constraints : (w : ℕ) (gate : Combination) (x y by_zero : ℕ) (bits : Bits) (row : DoubleRow) (next : ℕ)
      → length (row_division_of w gate (dividing x y by_zero) bits row next).list ≡ 4
  pub terms : (w : ℕ) (gate : Combination) (x y by_zero : ℕ) (bits : Bits) (row : DoubleRow) (next : ℕ)
      → terms_in (row_division_of w gate (dividing x y by_zero) bits row next).list ≡ 2 * length gate + w + 17
