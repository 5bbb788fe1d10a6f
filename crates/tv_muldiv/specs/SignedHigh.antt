-- The high word of the product of two words as signed numbers.
use Rattle.std.specs.Prelude.{◌≡◌, ℕ, ◌+◌, ◌-◌, ◌*◌, ◌^◌, if◌then◌else◌, List, [], ◌∷◌, ◌++◌, slice_index}
use Rattle.tv_bits.specs.Bits.{HasBits, bits_combination, new_bits_of}
use Rattle.tv_bits.specs.declared.bit_wires.Bits.{Bits}
use Rattle.tv_core.specs.Circuits.{Circuit, put, pure, ◌>>=◌}
use Rattle.tv_core.specs.Constraints.{Combination}
use Rattle.tv_core.specs.Laws.{Assigns, Meets, HasFrom, Fills, InField}
use Rattle.tv_core.specs.declared.field.TheConstants.{P}
use Rattle.tv_bits.specs.Nonzero.{nonzero_of, nonzero_values}
use Rattle.tv_row_products.specs.RowSignedProduct.{excess_in}
use Rattle.tv_muldiv.specs.Weighed.{signed_combination, halves_values}
use Rattle.tv_muldiv.specs.declared.records.High.{High}
use Rattle.tv_word.specs.Operations.{signed_product, product_twos, smulh_result}
use Rattle.tv_word.specs.Twos.{fits}
use Rattle.tv_word.specs.Widths.{IsWidth}

-- a and b being words of w bits, the wires represent the high word of their signed product, and one holds 1
-- exactly where that product is no signed number of w bits
pub record IsSignedHigh (w : ℕ) (z : List ℕ) (made : High) (a b : ℕ) : Type 0 where
  pub high : HasBits z made.high.first w (smulh_result w a b)
  pub over : slice_index z made.over ≡ (if fits w (signed_product w a b) then 0 else 1)

-- 2 w new bits that represent the product of words of w bits, each in two's complement: both sides are too
-- small for the sides to differ by P
unfoldable pub signed_bits_of : ℕ → Bits → Bits → Circuit Bits
signed_bits_of w x y = do
  made ← new_bits_of (2 * w)
  _ ← put (signed_combination x.first w) (signed_combination y.first w) (signed_combination made.first (2 * w))
  pure made

-- the combination of `excess_in`, for the number of 2 w bits from a first wire on
abbrev pub excess : ℕ → ℕ → Combination
excess first w = bits_combination (first + w) w ++ (P - (2 ^ w - 1), first + (w - 1)) ∷ []

-- these bits, and a wire that is 1 where the product is no signed number of w bits, else 0
unfoldable pub signed_high_of : ℕ → Bits → Bits → Circuit High
signed_high_of w x y = do
  made ← signed_bits_of w x y
  over ← nonzero_of (excess made.first w)
  pure (record { high = record { first = made.first + w; n = w }; over = over })

-- the values of the wires that are made for words a and b
abbrev pub signed_high_values : ℕ → ℕ → ℕ → List ℕ
signed_high_values w a b = halves_values w (product_twos w a b) ++ nonzero_values (excess_in w (product_twos w a b))

-- where x and y represent words, an assignment that satisfies the constraints has the high word of their signed product
-- at the returned wires
abbrev pub SignedHighIsSound : Type 0
SignedHighIsSound = (w : ℕ) → IsWidth w → (z : List ℕ) (next : ℕ) (x y : Bits) (a b : ℕ) → Assigns z → HasBits z x.first w a → HasBits z y.first w b
    → Meets z (signed_high_of w x y next).list → IsSignedHigh w z (signed_high_of w x y next).answer a b

-- where x and y represent words, an assignment that has these values at the wires that were made satisfies the constraints
abbrev pub SignedHighIsComplete : Type 0
SignedHighIsComplete = (w : ℕ) → IsWidth w → (z : List ℕ) (next : ℕ) (x y : Bits) (a b : ℕ) → Assigns z → HasBits z x.first w a → HasBits z y.first w b
    → HasFrom z next (signed_high_values w a b) → Meets z (signed_high_of w x y next).list

-- what the circuit returns and where it ends; it has one value for each wire that it makes, all in the field
pub record SignedHighSizes : Type 0 where
  pub answer : (w : ℕ) (x y : Bits) (next : ℕ) → (signed_high_of w x y next).answer ≡ record { high = record { first = next + w; n = w }; over = next + 2 * w }
  pub end : (w : ℕ) (x y : Bits) (next : ℕ) → (signed_high_of w x y next).next ≡ next + (2 * w + 2)
  pub fills : (w : ℕ) (x y : Bits) (a b : ℕ) → Fills (signed_high_of w x y) (signed_high_values w a b)
  pub in_field : (w a b : ℕ) → InField (signed_high_values w a b)
