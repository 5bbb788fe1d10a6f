-- The difference of two words, with its borrow.
use Rattle.std.specs.Prelude.{◌≡◌, ℕ, ◌+◌, ◌-◌, ◌*◌, ◌%◌, ◌^◌, List, [], ◌∷◌, ◌++◌}
use Rattle.tv_bits.specs.Bits.{HasBits, bits_combination, bits_values, new_bits_of}
use Rattle.tv_bits.specs.declared.bit_wires.Bits.{Bits}
use Rattle.tv_core.specs.Circuits.{Circuit, put, pure, ◌>>=◌}
use Rattle.tv_core.specs.Combinations.{constant, less}
use Rattle.tv_core.specs.Constraints.{Combination}
use Rattle.tv_core.specs.Laws.{Assigns, Meets, HasFrom, Fills, InField}
use Rattle.tv_core.specs.declared.field.TheConstants.{P}
use Rattle.tv_word.specs.Operations.{sub_result, sub_flag}
use Rattle.tv_word.specs.Widths.{IsWidth}
use Rattle.tv_word.specs.Word.{flag_of}
use Rattle.tv_limb.specs.Split.{HasPartBits, split_at}
use Rattle.tv_limb.specs.declared.parts.Split.{Split}

-- the borrow of a difference, as a number
abbrev pub borrow : ℕ → ℕ → ℕ
borrow x y = flag_of (sub_flag x y)

-- the low part less 2 ^ w times the wire of the borrow
abbrev pub less_borrow : ℕ → Split → Combination
less_borrow w parts = bits_combination parts.low.first w ++ ((P - 2 ^ w % P) % P, parts.high.first) ∷ []

-- one word less another, as a combination
abbrev pub difference_of_words : ℕ → Bits → Bits → Combination
difference_of_words w x y = less (bits_combination x.first w) (bits_combination y.first w)

-- a new word and a new bit: the word less 2 ^ w times the bit is x less y
unfoldable pub sub_of : ℕ → Bits → Bits → Circuit Split
sub_of w x y = do
  made ← new_bits_of (w + 1)
  _ ← put (less_borrow w (split_at w made)) (constant 1) (difference_of_words w x y)
  pure (split_at w made)

-- the values of the wires that are made: the bits of the difference, and then the borrow
abbrev pub sub_values : ℕ → ℕ → ℕ → List ℕ
sub_values w x y = bits_values (sub_result w x y + 2 ^ w * borrow x y) (w + 1)

-- in an assignment that satisfies the constraints the result represents the difference modulo 2 ^ w, and the borrow
abbrev pub SubIsSound : Type 0
SubIsSound = (w : ℕ) → IsWidth w → (z : List ℕ) (next : ℕ) (x y : Bits) (a b : ℕ) → Assigns z → HasBits z x.first w a → HasBits z y.first w b
    → Meets z (sub_of w x y next).list → HasPartBits w 1 z (sub_of w x y next).answer (sub_result w a b) (borrow a b)

-- an assignment that has these values at the wires that were made satisfies the constraints
abbrev pub SubIsComplete : Type 0
SubIsComplete = (w : ℕ) → IsWidth w → (z : List ℕ) (next : ℕ) (x y : Bits) (a b : ℕ) → Assigns z → HasBits z x.first w a → HasBits z y.first w b
    → HasFrom z next (sub_values w a b) → Meets z (sub_of w x y next).list

-- what the circuit returns and where it ends; it has one value for each wire that it makes, all in the field
pub record SubSizes : Type 0 where
  pub answer : (w : ℕ) (x y : Bits) (next : ℕ) → (sub_of w x y next).answer ≡ split_at w (record { first = next; n = w + 1 })
  pub end : (w : ℕ) (x y : Bits) (next : ℕ) → (sub_of w x y next).next ≡ next + (w + 1)
  pub fills : (w : ℕ) (x y : Bits) (a b : ℕ) → Fills (sub_of w x y) (sub_values w a b)
  pub in_field : (w a b : ℕ) → InField (sub_values w a b)
