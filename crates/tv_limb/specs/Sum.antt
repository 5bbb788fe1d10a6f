-- The sum of two words, with its carry.
use Rattle.std.specs.Prelude.{◌≡◌, ℕ, ◌+◌, List, ◌++◌}
use Rattle.tv_bits.specs.Bits.{HasBits, bits_combination, bits_values}
use Rattle.tv_bits.specs.declared.bit_wires.Bits.{Bits}
use Rattle.tv_core.specs.Circuits.{Circuit}
use Rattle.tv_core.specs.Combinations.{scaled}
use Rattle.tv_core.specs.Constraints.{Combination}
use Rattle.tv_core.specs.Laws.{Assigns, Meets, HasFrom, Fills, InField}
use Rattle.tv_rows.specs.RowSum.{carry}
use Rattle.tv_word.specs.Operations.{add_result}
use Rattle.tv_word.specs.Widths.{IsWidth}
use Rattle.tv_limb.specs.Split.{HasPartBits, split_at, split_of}
use Rattle.tv_limb.specs.declared.parts.Split.{Split}

-- the sum of two words, as a combination
abbrev pub sum_of_words : ℕ → Bits → Bits → Combination
sum_of_words w x y = bits_combination x.first w ++ scaled 1 (bits_combination y.first w)

-- the sum, split into a word and the carry
unfoldable pub add_of : ℕ → Bits → Bits → Circuit Split
add_of w x y = split_of w (sum_of_words w x y) (w + 1)

-- the values of the wires that are made: the bits of the sum
abbrev pub add_values : ℕ → ℕ → ℕ → List ℕ
add_values w x y = bits_values (x + y) (w + 1)

-- in an assignment that satisfies the constraints the result represents the sum modulo 2 ^ w, and the carry
abbrev pub AddIsSound : Type 0
AddIsSound = (w : ℕ) → IsWidth w → (z : List ℕ) (next : ℕ) (x y : Bits) (a b : ℕ) → Assigns z → HasBits z x.first w a → HasBits z y.first w b
    → Meets z (add_of w x y next).list → HasPartBits w 1 z (add_of w x y next).answer (add_result w a b) (carry w a b)

-- an assignment that has these values at the wires that were made satisfies the constraints
abbrev pub AddIsComplete : Type 0
AddIsComplete = (w : ℕ) → IsWidth w → (z : List ℕ) (next : ℕ) (x y : Bits) (a b : ℕ) → Assigns z → HasBits z x.first w a → HasBits z y.first w b
    → HasFrom z next (add_values w a b) → Meets z (add_of w x y next).list

-- what the circuit returns and where it ends; it has one value for each wire that it makes, all in the field
pub record AddSizes : Type 0 where
  pub answer : (w : ℕ) (x y : Bits) (next : ℕ) → (add_of w x y next).answer ≡ split_at w (record { first = next; n = w + 1 })
  pub end : (w : ℕ) (x y : Bits) (next : ℕ) → (add_of w x y next).next ≡ next + (w + 1)
  pub fills : (w : ℕ) (x y : Bits) (a b : ℕ) → Fills (add_of w x y) (add_values w a b)
  pub in_field : (w a b : ℕ) → InField (add_values w a b)
