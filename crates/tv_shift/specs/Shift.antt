-- Shifts of a word by a word. A half of a word has n = 2^k bits, and the distance y is s + n b + 2 n c: s is represented by
-- its k low bits, b is bit k, and c is represented by the others.
use Rattle.std.specs.Prelude.{◌≡◌, ℕ, ◌+◌, ◌-◌, ◌*◌, ◌/◌, ◌%◌, ◌<◌, ◌^◌, List, [], ◌∷◌, ◌++◌, slice_index}
use Rattle.std.specs.Int.{bit_at}
use Rattle.tv_bits.specs.Bits.{HasBits, bits_combination, bits_values}
use Rattle.tv_bits.specs.Select.{selected, select_of}
use Rattle.tv_bits.specs.Zero.{zero_of, zero_values}
use Rattle.tv_bits.specs.declared.bit_wires.Bits.{Bits}
use Rattle.tv_core.specs.Circuits.{Circuit, pure, ◌>>=◌}
use Rattle.tv_core.specs.Combinations.{wire, scaled, less}
use Rattle.tv_core.specs.Laws.{Assigns, Meets, HasFrom, Fills, InField}
use Rattle.tv_core.specs.declared.field.TheConstants.{P}
use Rattle.tv_shift.specs.Halves.{chosen_half, other_half, halves_of}
use Rattle.tv_shift.specs.Masks.{masked_of, masked_values, half_log, mask_at, mask_value, digit_at}
use Rattle.tv_bits.specs.Ratio.{ratio_of}
use Rattle.tv_bits.specs.Times.{times_of}
use Rattle.tv_shift.specs.Thermometer.{mark, thermometer_of, thermometer_values, power_of}
use Rattle.tv_shift.specs.declared.masks.Part.TheVariants.{Low, High}
use Rattle.tv_shift.specs.declared.masks.Places.{Places}
use Rattle.tv_shift.specs.declared.masks.Parts.{Parts}
use Rattle.tv_shift.specs.declared.ends.Shift.{Shift}
use Rattle.tv_word.specs.Widths.{IsWidth}

-- a word of w bits shifted by y: to the left, and to the right
abbrev pub shifted_left : ℕ → ℕ → ℕ → ℕ
shifted_left w x y = x * 2 ^ y % 2 ^ w

abbrev pub shifted_right : ℕ → ℕ → ℕ
shifted_right x y = x / 2 ^ y

-- the wires hold x shifted by y
pub record IsShifted (w : ℕ) (z : List ℕ) (answer : Shift) (x y : ℕ) : Type 0 where
  pub left : slice_index z answer.left ≡ shifted_left w x y
  pub right : slice_index z answer.right ≡ shifted_right x y

-- the chosen half and the thermometer
unfoldable pub places_of : ℕ → ℕ → ℕ → Circuit Places
places_of w x y = do
  chosen ← halves_of (w / 2) (y + half_log w) x
  products ← thermometer_of (half_log w) y
  pure (record { word = x; distance = y; chosen = chosen; products = products })

-- and the two parts that fall away
unfoldable pub parts_of : ℕ → ℕ → ℕ → Circuit Parts
parts_of w x y = do
  places ← places_of w x y
  low ← masked_of (mask_at w places Low) (digit_at w places Low) (w / 4)
  high ← masked_of (mask_at w places High) (digit_at w places High) (w / 4)
  pure (record { places = places; low = low; high = high })

-- the word shifted by n where b is 1
unfoldable pub by_half_of : ℕ → ℕ → ℕ → Circuit Shift
by_half_of w b x = do
  left ← select_of b (scaled (2 ^ (w / 2) % P) (bits_combination x (w / 2))) (bits_combination x w)
  right ← select_of b (bits_combination (x + w / 2) (w / 2)) (bits_combination x w)
  pure (record { left = left; right = right })

-- and then by s: without the part that falls away, times 2^s to the left, divided by 2^s to the right
unfoldable pub by_rest_of : ℕ → Parts → Shift → Circuit Shift
by_rest_of w parts half = do
  left ← times_of (power_of (mark parts.places.distance parts.places.products (half_log w)) (w / 2 - 1))
      (less (wire half.left) (scaled (2 ^ (w / 2) % P) (bits_combination parts.high (w / 4))))
  right ← ratio_of (power_of (mark parts.places.distance parts.places.products (half_log w)) (w / 2 - 1))
      (less (wire half.right) (bits_combination parts.low (w / 4)))
  pure (record { left = left; right = right })

-- and 0 where c is not 0
unfoldable pub ends_of : ℕ → Shift → Circuit Shift
ends_of in_range near = do
  left ← times_of (wire in_range) (wire near.left)
  right ← times_of (wire in_range) (wire near.right)
  pure (record { left = left; right = right })

-- the word x shifted by the word y
unfoldable pub shift_of : ℕ → Bits → Bits → Circuit Shift
shift_of w x y = do
  parts ← parts_of w x.first y.first
  half ← by_half_of w (y.first + half_log w) x.first
  near ← by_rest_of w parts half
  in_range ← zero_of (bits_combination (y.first + (half_log w + 1)) (w - (half_log w + 1)))
  ends_of in_range near

-- how many wires are made: for the half and the thermometer, with the parts, and in all
abbrev pub places_made : ℕ → ℕ
places_made w = w - 3 - w / 16

abbrev pub parts_made : ℕ → ℕ
parts_made w = places_made w + w / 2

abbrev pub shift_made : ℕ → ℕ
shift_made w = parts_made w + 8

-- what is returned, computed from the number of the first of these wires: the last two
abbrev pub shift_wires : ℕ → ℕ → Shift
shift_wires w first = record { left = first + (shift_made w - 2); right = first + (shift_made w - 1) }

-- the values of the wires that are made, in groups as above
abbrev pub places_values : ℕ → ℕ → ℕ → List ℕ
places_values w x y = bits_values (chosen_half (w / 2) (bit_at y (half_log w)) x) (w / 2) ++ thermometer_values (half_log w) y

abbrev pub parts_values : ℕ → ℕ → ℕ → List ℕ
parts_values w x y =
    places_values w x y
    ++ (masked_values (mask_value w (y % 2 ^ half_log w) Low) (chosen_half (w / 2) (bit_at y (half_log w)) x) (w / 4)
    ++ masked_values (mask_value w (y % 2 ^ half_log w) High) (other_half (w / 2) (bit_at y (half_log w)) x) (w / 4))

abbrev pub half_left : ℕ → ℕ → ℕ → ℕ
half_left n b x = selected b (2 ^ n * (x % 2 ^ n)) x

abbrev pub half_right : ℕ → ℕ → ℕ → ℕ
half_right n b x = selected b (x / 2 ^ n) x

abbrev pub ends_values : ℕ → ℕ → ℕ → List ℕ
ends_values w x y =
    let left = half_left (w / 2) (bit_at y (half_log w)) x in
    let right = half_right (w / 2) (bit_at y (half_log w)) x in
    left ∷ right ∷ shifted_left w left (y % 2 ^ half_log w) ∷ shifted_right right (y % 2 ^ half_log w) ∷ []

abbrev pub shift_values : ℕ → ℕ → ℕ → List ℕ
shift_values w x y =
    parts_values w x y
    ++ (ends_values w x y
    ++ (zero_values (y / 2 ^ (half_log w + 1))
    ++ shifted_left w x y ∷ shifted_right x y ∷ []))

-- in an assignment that satisfies the constraints, the result is the word shifted by the other
abbrev pub ShiftIsSound : Type 0
ShiftIsSound = (w : ℕ) → IsWidth w → (z : List ℕ) (next : ℕ) (x y : Bits) (v d : ℕ) → Assigns z → HasBits z x.first w v → HasBits z y.first w d
    → Meets z (shift_of w x y next).list → IsShifted w z (shift_of w x y next).answer v d

-- an assignment that has these values at the wires that were made satisfies the constraints
abbrev pub ShiftIsComplete : Type 0
ShiftIsComplete = (w : ℕ) → IsWidth w → (z : List ℕ) (next : ℕ) (x y : Bits) (v d : ℕ) → Assigns z → HasBits z x.first w v → HasBits z y.first w d
    → HasFrom z next (shift_values w v d) → Meets z (shift_of w x y next).list

-- what the circuit returns and where it ends; it has one value for each wire that it makes, and those of words are in
-- the field
pub record ShiftSizes : Type 0 where
  pub answer : (w : ℕ) → IsWidth w → (x y : Bits) (next : ℕ) → (shift_of w x y next).answer ≡ shift_wires w next
  pub end : (w : ℕ) → IsWidth w → (x y : Bits) (next : ℕ) → (shift_of w x y next).next ≡ next + shift_made w
  pub fills : (w : ℕ) → IsWidth w → (x y : Bits) (v d : ℕ) → Fills (shift_of w x y) (shift_values w v d)
  pub in_field : (w : ℕ) → IsWidth w → (v d : ℕ) → v < 2 ^ w → d < 2 ^ w → InField (shift_values w v d)
