-- Two to the power of a distance's remainder by a word's width, by which a word is multiplied or divided in a shift.
use Rattle.std.specs.Prelude.{◌≡◌, ℕ, ◌+◌, ◌-◌, ◌*◌, ◌/◌, ◌%◌, ◌^◌, ◌==◌, if◌then◌else◌, List, [], ◌∷◌, ◌++◌, length, slice_index}
use Rattle.std.specs.Int.{bit_at}
use Rattle.tv_bits.specs.Bits.{HasBits}
use Rattle.tv_bits.specs.Times.{times_of}
use Rattle.tv_bits.specs.declared.bit_wires.Bits.{Bits}
use Rattle.tv_core.specs.Circuits.{Circuit, pure, ◌>>=◌}
use Rattle.tv_core.specs.Combinations.{wire}
use Rattle.tv_core.specs.Constraints.{Combination}
use Rattle.tv_core.specs.Laws.{Assigns, Meets, HasFrom, Fills, InField}
use Rattle.tv_core.specs.Meanings.{terms_in}
use Rattle.tv_rows.specs.declared.powers.ShiftPower.{ShiftPower}
use Rattle.tv_word.specs.Widths.{IsWidth}

-- the number k where the bit b is 1, and else 1
abbrev pub factor_by : ℕ → ℕ → Combination
factor_by k b = (1, 0) ∷ (k - 1, b) ∷ []

-- 2 ^ (a + 2 b), with the bits a and b and their product
abbrev pub pair_power : ℕ → ℕ → ℕ → Combination
pair_power a b product = (1, 0) ∷ (1, a) ∷ (3, b) ∷ (3, product) ∷ []

-- by the four lowest bits of a distance, of which y is the first wire
unfoldable pub low_power_of : ℕ → Circuit ShiftPower
low_power_of y = do
  both ← times_of (wire y) (wire (y + 1))
  middle ← times_of (factor_by 16 (y + 2)) (factor_by 256 (y + 3))
  power ← times_of (pair_power y (y + 1) both) (wire middle)
  pure (record { both = both; power = power })

-- and by the five lowest ones
unfoldable pub wide_power_of : ℕ → Circuit ShiftPower
wide_power_of y = do
  low ← low_power_of y
  power ← times_of (wire low.power) (factor_by 65536 (y + 4))
  pure (record { both = low.both; power = power })

-- the power of a distance, at either width
unfoldable pub shift_power_of : ℕ → Bits → Circuit ShiftPower
shift_power_of w y = if w == 16 then low_power_of y.first else wide_power_of y.first

-- how many wires and constraints it makes
abbrev pub shift_power_made : ℕ → ℕ
shift_power_made w = w / 16 + 2

-- what is returned, computed from the number of the first wire that is made
abbrev pub shift_power_wires : ℕ → ℕ → ShiftPower
shift_power_wires w first = record { both = first; power = first + (w / 16 + 1) }

-- the values of the wires that are made
abbrev pub low_power_values : ℕ → List ℕ
low_power_values d = bit_at d 0 * bit_at d 1 ∷ 2 ^ (4 * (d / 4 % 4)) ∷ 2 ^ (d % 16) ∷ []

-- and at 32 bits
abbrev pub wide_power_values : ℕ → List ℕ
wide_power_values d = low_power_values d ++ 2 ^ (d % 32) ∷ []

-- and at either width
abbrev pub shift_power_values : ℕ → ℕ → List ℕ
shift_power_values w d = if w == 16 then low_power_values d else wide_power_values d

-- the wires hold the product of the distance's two lowest bits, and the power
pub record IsShiftPower (w : ℕ) (z : List ℕ) (answer : ShiftPower) (d : ℕ) : Type 0 where
  pub both : slice_index z answer.both ≡ bit_at d 0 * bit_at d 1
  pub power : slice_index z answer.power ≡ 2 ^ (d % w)

-- in an assignment that satisfies the constraints the result is the distance's power
abbrev pub ShiftPowerIsSound : Type 0
ShiftPowerIsSound = (w : ℕ) → IsWidth w → (z : List ℕ) (next : ℕ) (y : Bits) (d : ℕ) → Assigns z → HasBits z y.first w d
    → Meets z (shift_power_of w y next).list → IsShiftPower w z (shift_power_of w y next).answer d

-- an assignment that has these values at the wires that were made satisfies the constraints
abbrev pub ShiftPowerIsComplete : Type 0
ShiftPowerIsComplete = (w : ℕ) → IsWidth w → (z : List ℕ) (next : ℕ) (y : Bits) (d : ℕ) → Assigns z → HasBits z y.first w d
    → HasFrom z next (shift_power_values w d) → Meets z (shift_power_of w y next).list

-- which wires are returned, and that the values are one number of the field for each wire that is made
pub record ShiftPowerSizes : Type 0 where
  pub answer : (w : ℕ) → IsWidth w → (y : Bits) (next : ℕ) → (shift_power_of w y next).answer ≡ shift_power_wires w next
  pub end : (w : ℕ) → IsWidth w → (y : Bits) (next : ℕ) → (shift_power_of w y next).next ≡ next + shift_power_made w
  pub fills : (w : ℕ) → IsWidth w → (y : Bits) (d : ℕ) → Fills (shift_power_of w y) (shift_power_values w d)
  pub in_field : (w : ℕ) → IsWidth w → (d : ℕ) → InField (shift_power_values w d)

-- how many constraints and terms are put
pub record ShiftPowerCosts : Type 0 where
  pub constraints : (w : ℕ) → IsWidth w → (y : Bits) (next : ℕ) → length (shift_power_of w y next).list ≡ shift_power_made w
  pub terms : (w : ℕ) → IsWidth w → (y : Bits) (next : ℕ) → terms_in (shift_power_of w y next).list ≡ w / 4 + 10
