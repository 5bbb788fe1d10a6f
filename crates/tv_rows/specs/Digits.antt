-- The bitwise operations as digits: of two bits the sum is twice their and, plus their exclusive or.
use Rattle.std.specs.Prelude.{◌≡◌, ℕ, ◌+◌, ◌-◌, ◌*◌, ◌/◌, ◌%◌, ◌^◌, ◌<◌, List, [], ◌++◌, bit_and, bit_or, bit_xor, length, slice_index}
use Rattle.tv_bits.specs.Bits.{HasBits}
use Rattle.tv_bits.specs.DoubleRow.{IsRow, HasRowBits}
use Rattle.tv_bits.specs.declared.bit_wires.Bits.{Bits}
use Rattle.tv_bits.specs.declared.double_rows.DoubleRow.{DoubleRow}
use Rattle.tv_core.specs.Below.{weighted}
use Rattle.tv_core.specs.Circuits.{Circuit, put, ◌>>=◌}
use Rattle.tv_core.specs.Constraints.{Combination, value}
use Rattle.tv_core.specs.Laws.{Assigns, Meets, Fills, InField}
use Rattle.tv_core.specs.Meanings.{terms_in}
use Rattle.tv_core.specs.declared.field.TheConstants.{P}
use Rattle.tv_rows.specs.declared.digits.TheConstants.{BASE}
use Rattle.tv_word.specs.Widths.{IsWidth}

-- k times the number whose n digits the wires from a first one on hold, lowest first
abbrev pub digits_combination : ℕ → ℕ → ℕ → Combination
digits_combination k first n = weighted first n (λ j. k * BASE ^ j % P)

-- the number whose digits are y + x - 2 both - one, of n wires from y, x and row on for y, x and both, and from row + w on for one
abbrev pub digit_sum : ℕ → ℕ → ℕ → ℕ → ℕ → Combination
digit_sum w n x y row =
    digits_combination 1 y n ++ (digits_combination 1 x n ++ (digits_combination (P - 2) row n ++ digits_combination (P - 1) (row + w) n))

-- this number is 0 where the gate is 1
unfoldable pub digits_of : ℕ → ℕ → Combination → ℕ → ℕ → ℕ → Circuit (Unit {0})
digits_of w n gate x y row = put gate (digit_sum w n x y row) []

-- the digits of the low half of the words, and those of the high half
unfoldable pub bitwise_of : ℕ → Combination → Bits → Bits → DoubleRow → Circuit (Unit {0})
bitwise_of w gate x y row = do
  _ ← digits_of w (w / 2) gate x.first y.first row.first
  digits_of w (w / 2) gate (x.first + w / 2) (y.first + w / 2) (row.first + w / 2)

-- two words are the and and the exclusive or of others, and the or is their sum
pub record AreBitwise (both one a b : ℕ) : Type 0 where
  pub and_word : both ≡ bit_and a b
  pub xor_word : one ≡ bit_xor a b
  pub or_word : both + one ≡ bit_or a b

-- where the gate is 1, the row's halves are the and and the exclusive or in an assignment that satisfies the constraints
abbrev pub BitwiseIsSound : Type 0
BitwiseIsSound = (w : ℕ) → IsWidth w → (z : List ℕ) (next : ℕ) (gate : Combination) (x y : Bits) (row : DoubleRow) (a b : ℕ) → Assigns z
    → HasBits z x.first w a → HasBits z y.first w b → HasRowBits w z row → value gate z ≡ 1 → Meets z (bitwise_of w gate x y row next).list
    → AreBitwise (slice_index z row.low) (slice_index z row.high) a b

-- an assignment in which they are so satisfies the constraints, and so does one in which the gate is 0; they are a row
pub record BitwiseIsComplete : Type 0 where
  pub on : (w : ℕ) → IsWidth w → (z : List ℕ) (next : ℕ) (gate : Combination) (x y : Bits) (row : DoubleRow) (a b : ℕ) → Assigns z
      → HasBits z x.first w a → HasBits z y.first w b → HasRowBits w z row
      → slice_index z row.low ≡ bit_and a b → slice_index z row.high ≡ bit_xor a b → Meets z (bitwise_of w gate x y row next).list
  pub off : (w : ℕ) (z : List ℕ) (next : ℕ) (gate : Combination) (x y : Bits) (row : DoubleRow) → value gate z ≡ 0
      → Meets z (bitwise_of w gate x y row next).list
  pub row : (w : ℕ) → IsWidth w → (a b : ℕ) → a < 2 ^ w → b < 2 ^ w → IsRow w (bit_and a b) (bit_xor a b)

-- it makes no wire, and so has no value
pub record BitwiseSizes : Type 0 where
  pub end : (w : ℕ) (gate : Combination) (x y : Bits) (row : DoubleRow) (next : ℕ) → (bitwise_of w gate x y row next).next ≡ next
  pub fills : (w : ℕ) (gate : Combination) (x y : Bits) (row : DoubleRow) → Fills (bitwise_of w gate x y row) []
  pub in_field : InField []

-- how many constraints and terms are put
pub record BitwiseCosts : Type 0 where
  pub constraints : (w : ℕ) (gate : Combination) (x y : Bits) (row : DoubleRow) (next : ℕ) → length (bitwise_of w gate x y row next).list ≡ 2
  pub terms : (w : ℕ) → IsWidth w → (gate : Combination) (x y : Bits) (row : DoubleRow) (next : ℕ)
      → terms_in (bitwise_of w gate x y row next).list ≡ 2 * length gate + 4 * w
