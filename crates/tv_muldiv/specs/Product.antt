-- The product of two words, as a low and a high word.
use Rattle.std.specs.Prelude.{◌≡◌, ℕ, ◌+◌, ◌-◌, ◌*◌, List, ◌++◌, slice_index}
use Rattle.tv_bits.specs.Bits.{HasBits, bits_combination, new_bits_of}
use Rattle.tv_bits.specs.declared.bit_wires.Bits.{Bits}
use Rattle.tv_core.specs.Circuits.{Circuit, fresh, put, pure, ◌>>=◌}
use Rattle.tv_core.specs.Combinations.{wire}
use Rattle.tv_core.specs.Laws.{Assigns, Meets, HasFrom, Fills, InField}
use Rattle.tv_bits.specs.Nonzero.{nonzero_flag, nonzero_of, nonzero_values}
use Rattle.tv_word.specs.Operations.{mull_result, umulh_result}
use Rattle.tv_word.specs.Widths.{IsWidth}
use Rattle.tv_muldiv.specs.Weighed.{halves_values}
use Rattle.tv_muldiv.specs.declared.records.Product.{Product}

-- a and b being words of w bits, the wires represent the low and the high word of their product, and one holds 1
-- exactly where the high word is another than 0
pub record IsProduct (w : ℕ) (z : List ℕ) (made : Product) (a b : ℕ) : Type 0 where
  pub low : HasBits z made.low.first w (mull_result w a b)
  pub high : HasBits z made.high.first w (umulh_result w a b)
  pub over : slice_index z made.over ≡ nonzero_flag (umulh_result w a b)

-- 2 w new wires that represent the product of words of w bits: their number is the product modulo P, and the lowest is
-- the product of the lowest bits, which the product and the product plus P don't share, P being odd
unfoldable pub product_bits_of : ℕ → Bits → Bits → Circuit ℕ
product_bits_of w x y = do
  first ← fresh
  _ ← new_bits_of (2 * w - 1)
  _ ← put (wire x.first) (wire y.first) (wire first)
  _ ← put (bits_combination x.first w) (bits_combination y.first w) (bits_combination first (2 * w))
  pure first

-- these wires as two words, and a wire that is 1 where the high one is another than 0, else 0
unfoldable pub product_of : ℕ → Bits → Bits → Circuit Product
product_of w x y = do
  first ← product_bits_of w x y
  over ← nonzero_of (bits_combination (first + w) w)
  pure (record { low = record { first = first; n = w }; high = record { first = first + w; n = w }; over = over })

-- the values of the wires that are made for words a and b
abbrev pub product_values : ℕ → ℕ → ℕ → List ℕ
product_values w a b = halves_values w (a * b) ++ nonzero_values (umulh_result w a b)

-- where x and y represent words, an assignment that satisfies the constraints has their product at the returned wires
abbrev pub ProductIsSound : Type 0
ProductIsSound = (w : ℕ) → IsWidth w → (z : List ℕ) (next : ℕ) (x y : Bits) (a b : ℕ) → Assigns z → HasBits z x.first w a → HasBits z y.first w b
    → Meets z (product_of w x y next).list → IsProduct w z (product_of w x y next).answer a b

-- where x and y represent words, an assignment that has these values at the wires that were made satisfies the constraints
abbrev pub ProductIsComplete : Type 0
ProductIsComplete = (w : ℕ) → IsWidth w → (z : List ℕ) (next : ℕ) (x y : Bits) (a b : ℕ) → Assigns z → HasBits z x.first w a → HasBits z y.first w b
    → HasFrom z next (product_values w a b) → Meets z (product_of w x y next).list

-- what the circuit returns and where it ends; it has one value for each wire that it makes, all in the field
pub record ProductSizes : Type 0 where
  pub answer : (w : ℕ) → IsWidth w → (x y : Bits) (next : ℕ)
      → (product_of w x y next).answer ≡ record { low = record { first = next; n = w }; high = record { first = next + w; n = w }; over = next + 2 * w }
  pub end : (w : ℕ) → IsWidth w → (x y : Bits) (next : ℕ) → (product_of w x y next).next ≡ next + (2 * w + 2)
  pub fills : (w : ℕ) → IsWidth w → (x y : Bits) (a b : ℕ) → Fills (product_of w x y) (product_values w a b)
  pub in_field : (w a b : ℕ) → InField (product_values w a b)
