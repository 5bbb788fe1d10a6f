-- The quotient and the remainder of two words.
use Rattle.std.specs.Prelude.{◌≡◌, ℕ, ◌+◌, ◌-◌, ◌*◌, ◌^◌, ◌<◌, ◌/◌, ◌==◌, if◌then◌else◌, List, [], ◌∷◌, ◌++◌, slice_index}
use Rattle.tv_bits.specs.Bits.{HasBits, AreBitsBelow, bits_combination, bits_values, new_bits_of}
use Rattle.tv_bits.specs.Order.{first_difference}
use Rattle.tv_bits.specs.Prefixes.{prefix_difference_of, prefix_difference_values}
use Rattle.tv_bits.specs.Times.{times_of}
use Rattle.tv_bits.specs.Zero.{zero_flag}
use Rattle.tv_bits.specs.declared.bit_wires.Bits.{Bits}
use Rattle.tv_core.specs.Circuits.{Circuit, put, pure, ◌>>=◌}
use Rattle.tv_core.specs.Combinations.{wire, constant, scaled, less}
use Rattle.tv_core.specs.Laws.{Assigns, Meets, HasFrom, Fills, InField}
use Rattle.tv_muldiv.specs.declared.records.Quot.{Quot}
use Rattle.tv_word.specs.Operations.{udiv_result, umod_result}
use Rattle.tv_word.specs.Widths.{IsWidth}

-- a and b being words of w bits, the wires represent the quotient and the remainder of a by b, and one holds 1
-- exactly where b is 0
pub record IsQuotient (w : ℕ) (z : List ℕ) (made : Quot) (a b : ℕ) : Type 0 where
  pub quot : HasBits z made.quot.first w (udiv_result a b)
  pub rem : HasBits z made.rem.first w (umod_result a b)
  pub by_zero : slice_index z made.by_zero ≡ zero_flag b

-- the words have w bits each, and the wires are below a number
pub record IsQuotientBelow (wires w : ℕ) (made : Quot) : Type 0 where
  pub quot : AreBitsBelow wires w made.quot
  pub rem : AreBitsBelow wires w made.rem
  pub by_zero : made.by_zero < wires

-- the wires of the quotient, of the remainder and of whether the divisor is 0, from a first one on
abbrev pub quotient_at : ℕ → ℕ → Quot
quotient_at w first = record { quot = record { first = first; n = w }; rem = record { first = first + w; n = w }; by_zero = first + 2 * w }

-- new bits for them, the last of which is 0 where y isn't
unfoldable pub quotient_wires_of : ℕ → Bits → Circuit Quot
quotient_wires_of w y = do
  bits ← new_bits_of (2 * w + 1)
  _ ← put (wire (bits.first + 2 * w)) (bits_combination y.first w) []
  pure (quotient_at w bits.first)

-- a new wire that is x plus the quotient where the divisor is 0, and else 0
abbrev pub gate_of : ℕ → Bits → Quot → Circuit ℕ
gate_of w x made = times_of (wire made.by_zero) (bits_combination x.first w ++ scaled 1 (bits_combination made.quot.first w))

-- the quotient times y is x less the remainder and the gate: where the divisor is 0, the quotient and the
-- remainder so add up to 0
unfoldable pub division_of : ℕ → Bits → Bits → Quot → Circuit (Unit {0})
division_of w x y made = do
  gate ← gate_of w x made
  put (bits_combination made.quot.first w) (bits_combination y.first w)
      (less (less (bits_combination x.first w) (bits_combination made.rem.first w)) (wire gate))

-- the remainder is below y, or the divisor is 0: one more than some new bits, less the wire that is 1
-- where the divisor is 0, is a difference of prefixes of y and of the remainder
unfoldable pub remainder_below_of : ℕ → Bits → Quot → Circuit (Unit {0})
remainder_below_of w y made = do
  above ← new_bits_of (w / 4)
  prefix_difference_of (record { first = y.first; n = w }) made.rem (less (bits_combination above.first (w / 4) ++ constant 1) (wire made.by_zero)) (w / 4) 4

-- division: the returned wires, that they hold the quotient and the remainder, and that this is below the divisor
unfoldable pub quotient_of : ℕ → Bits → Bits → Circuit Quot
quotient_of w x y = do
  made ← quotient_wires_of w y
  _ ← division_of w x y made
  _ ← remainder_below_of w y made
  pure made

-- what the gate is, and by how much the divisor is above the remainder in the prefix that shows it
abbrev pub gate_in : ℕ → ℕ → ℕ
gate_in a b = if b == 0 then a else 0

abbrev pub above_in : ℕ → ℕ → ℕ → ℕ
above_in w a b = first_difference (w / 4) 4 b (umod_result a b)

-- the values of the wires that are made for words a and b
abbrev pub words_values : ℕ → ℕ → ℕ → List ℕ
words_values w a b = bits_values (udiv_result a b) w ++ bits_values (umod_result a b) w

abbrev pub above_values : ℕ → ℕ → ℕ → List ℕ
above_values w a b = bits_values (above_in w a b - 1) (w / 4) ++ prefix_difference_values b (umod_result a b) (above_in w a b) (w / 4) 4

abbrev pub quotient_values : ℕ → ℕ → ℕ → List ℕ
quotient_values w a b = words_values w a b ++ (zero_flag b ∷ gate_in a b ∷ above_values w a b)

-- where x and y represent words, an assignment that satisfies the constraints has their quotient and remainder at the
-- returned wires
abbrev pub QuotientIsSound : Type 0
QuotientIsSound = (w : ℕ) → IsWidth w → (z : List ℕ) (next : ℕ) (x y : Bits) (a b : ℕ) → Assigns z → HasBits z x.first w a → HasBits z y.first w b
    → Meets z (quotient_of w x y next).list → IsQuotient w z (quotient_of w x y next).answer a b

-- where x and y represent words, an assignment that has these values at the wires that were made satisfies the constraints
abbrev pub QuotientIsComplete : Type 0
QuotientIsComplete = (w : ℕ) → IsWidth w → (z : List ℕ) (next : ℕ) (x y : Bits) (a b : ℕ) → Assigns z → HasBits z x.first w a → HasBits z y.first w b
    → HasFrom z next (quotient_values w a b) → Meets z (quotient_of w x y next).list

-- what the circuit returns and where it ends; it has one value for each wire that it makes, all in the field for words
pub record QuotientSizes : Type 0 where
  pub answer : (w : ℕ) (x y : Bits) (next : ℕ)
      → (quotient_of w x y next).answer ≡ record { quot = record { first = next; n = w }; rem = record { first = next + w; n = w }; by_zero = next + 2 * w }
  pub end : (w : ℕ) (x y : Bits) (next : ℕ) → (quotient_of w x y next).next ≡ next + (2 * w + w / 4 + 4)
  pub fills : (w : ℕ) (x y : Bits) (a b : ℕ) → Fills (quotient_of w x y) (quotient_values w a b)
  pub in_field : (w : ℕ) → IsWidth w → (a b : ℕ) → a < 2 ^ w → InField (quotient_values w a b)
