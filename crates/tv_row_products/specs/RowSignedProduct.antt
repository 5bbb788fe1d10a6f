-- The product of two words as signed numbers, in two's complement in a row of twice their width.
use Rattle.std.specs.Prelude.{◌≡◌, ℕ, ◌+◌, ◌-◌, ◌*◌, ◌/◌, ◌%◌, ◌^◌, ◌<◌, if◌then◌else◌, List, [], ◌∷◌, length, slice_index}
use Rattle.std.specs.Int.{bit_at}
use Rattle.tv_bits.specs.DoubleRow.{HasRowBits, row_number}
use Rattle.tv_bits.specs.Gate.{gated_of}
use Rattle.tv_bits.specs.Nonzero.{nonzero_flag}
use Rattle.tv_bits.specs.SignedWords.{HoldsSigned}
use Rattle.tv_bits.specs.Times.{times_of, times_values}
use Rattle.tv_bits.specs.declared.double_rows.DoubleRow.{DoubleRow}
use Rattle.tv_bits.specs.declared.signed_words.SignedWord.{SignedWord}
use Rattle.tv_core.specs.Circuits.{Circuit, ◌>>=◌}
use Rattle.tv_core.specs.Combinations.{wire}
use Rattle.tv_core.specs.Constraints.{Combination, value}
use Rattle.tv_core.specs.Laws.{Assigns, Meets, HasFrom, Fills, InField}
use Rattle.tv_core.specs.Meanings.{terms_in}
use Rattle.tv_core.specs.declared.field.TheConstants.{P}
use Rattle.tv_word.specs.Operations.{signed_product, product_twos, smulh_result}
use Rattle.tv_word.specs.Twos.{fits}
use Rattle.tv_word.specs.Widths.{IsWidth}

-- the row's halves are those of the signed product of two words
pub record IsRowSignedProduct (w : ℕ) (z : List ℕ) (row : DoubleRow) (a b : ℕ) : Type 0 where
  pub low : slice_index z row.low ≡ product_twos w a b % 2 ^ w
  pub high : slice_index z row.high ≡ smulh_result w a b

-- of a number of 2 w bits the high word less 2 ^ w - 1 times the highest bit of the low word, which is 0 exactly where the
-- number is, in two's complement, one of w bits
abbrev pub excess_in : ℕ → ℕ → ℕ
excess_in w v = (v / 2 ^ w + (P - (2 ^ w - 1)) * bit_at v (w - 1)) % P

-- the weight of a sign beside n bits: 2 ^ n, negated
abbrev pub sign_weight : ℕ → ℕ
sign_weight n = (P - 2 ^ n % P) % P

-- a word less 2 ^ w times its sign, as a combination and of numbers
abbrev pub signed_word : ℕ → SignedWord → Combination
signed_word w x = (1, x.word) ∷ (sign_weight w, x.sign) ∷ []

abbrev pub signed_in : ℕ → ℕ → ℕ → ℕ
signed_in w v sign = (v + sign_weight w * sign) % P

-- a row's number less 2 ^ (2 w) times its highest bit
abbrev pub signed_row : ℕ → DoubleRow → Combination
signed_row w row = (sign_weight (2 * w), row.first + (2 * w - 1)) ∷ row_number w row

-- a new wire that is the product of two signed words; under the gate, it is the signed number of a row: both are too small
-- to differ by P
unfoldable pub row_signed_product_of : ℕ → Combination → SignedWord → SignedWord → DoubleRow → Circuit (Unit {0})
row_signed_product_of w gate x y row = do
  product ← times_of (signed_word w x) (signed_word w y)
  gated_of gate (signed_row w row) (wire product)

-- the value of the wire that is made, for words and signs
abbrev pub row_signed_product_values : ℕ → ℕ → ℕ → ℕ → ℕ → List ℕ
row_signed_product_values w a s b t = times_values (signed_in w a s) (signed_in w b t)

-- where the gate is 1, a row whose bits represent its words and that satisfies the constraints is the signed product of the words
abbrev pub RowSignedProductIsSound : Type 0
RowSignedProductIsSound = (w : ℕ) → IsWidth w → (z : List ℕ) (next : ℕ) (gate : Combination) (x y : SignedWord) (row : DoubleRow) (a b : ℕ) → Assigns z
    → value gate z ≡ 1 → HoldsSigned w z x a → HoldsSigned w z y b → HasRowBits w z row
    → Meets z (row_signed_product_of w gate x y row next).list → IsRowSignedProduct w z row a b

-- the product is a signed word exactly where the high half is 2 ^ w - 1 times the highest bit of the low half
abbrev pub RowSignedProductFits : Type 0
RowSignedProductFits = (w : ℕ) → IsWidth w → (a b : ℕ) → a < 2 ^ w → b < 2 ^ w
    → nonzero_flag ((smulh_result w a b + (P - (2 ^ w - 1)) * bit_at (product_twos w a b % 2 ^ w) (w - 1)) % P)
    ≡ (if fits w (signed_product w a b) then 0 else 1)

-- the halves of a signed product are words; with the value of the wire that was made, a row that holds them satisfies the
-- constraints, and where the gate is 0 any row does
pub record RowSignedProductIsComplete : Type 0 where
  pub words : (w : ℕ) → IsWidth w → (a b : ℕ) → (product_twos w a b % 2 ^ w < 2 ^ w) × (smulh_result w a b < 2 ^ w)
  pub on : (w : ℕ) → IsWidth w → (z : List ℕ) (next : ℕ) (gate : Combination) (x y : SignedWord) (row : DoubleRow) (a b : ℕ) → Assigns z
      → HoldsSigned w z x a → HoldsSigned w z y b → HasRowBits w z row → IsRowSignedProduct w z row a b
      → HasFrom z next (row_signed_product_values w a (bit_at a (w - 1)) b (bit_at b (w - 1))) → Meets z (row_signed_product_of w gate x y row next).list
  pub off : (w : ℕ) (z : List ℕ) (next : ℕ) (gate : Combination) (x y : SignedWord) (row : DoubleRow) → Assigns z → value gate z ≡ 0
      → HasFrom z next (row_signed_product_values w (slice_index z x.word) (slice_index z x.sign) (slice_index z y.word) (slice_index z y.sign))
      → Meets z (row_signed_product_of w gate x y row next).list

-- where it ends, and that the values are one number of the field for each wire that is made
pub record RowSignedProductSizes : Type 0 where
  pub end : (w : ℕ) (gate : Combination) (x y : SignedWord) (row : DoubleRow) (next : ℕ) → (row_signed_product_of w gate x y row next).next ≡ next + 1
  pub fills : (w : ℕ) (gate : Combination) (x y : SignedWord) (row : DoubleRow) (a s b t : ℕ)
      → Fills (row_signed_product_of w gate x y row) (row_signed_product_values w a s b t)
  pub in_field : (w a s b t : ℕ) → InField (row_signed_product_values w a s b t)

-- how many constraints and terms there are
pub record RowSignedProductCosts : Type 0 where
  pub constraints : (w : ℕ) (gate : Combination) (x y : SignedWord) (row : DoubleRow) (next : ℕ) → length (row_signed_product_of w gate x y row next).list ≡ 2
  pub terms : (w : ℕ) (gate : Combination) (x y : SignedWord) (row : DoubleRow) (next : ℕ)
      → terms_in (row_signed_product_of w gate x y row next).list ≡ length gate + 9
