-- The difference of two words in a row of twice their width, whose high half is their order.
use Rattle.std.specs.Prelude.{◌≡◌, ℕ, ◌+◌, ◌-◌, ◌%◌, ◌^◌, ◌<◌, ◌==◌, Bool}
use Rattle.std.specs.Prelude.{if◌then◌else◌, List, [], ◌∷◌, ◌++◌, length, slice_index}
use Rattle.std.specs.Int.{bit_at}
use Rattle.tv_bits.specs.Bit.{IsBit}
use Rattle.tv_bits.specs.DoubleRow.{IsRow, row_number}
use Rattle.tv_bits.specs.Gate.{gated_of}
use Rattle.tv_bits.specs.SignedWords.{HoldsSigned}
use Rattle.tv_bits.specs.Times.{times_of, times_values}
use Rattle.tv_bits.specs.declared.double_rows.DoubleRow.{DoubleRow}
use Rattle.tv_bits.specs.declared.signed_words.SignedWord.{SignedWord}
use Rattle.tv_core.specs.Circuits.{Circuit, ◌>>=◌}
use Rattle.tv_core.specs.Combinations.{wire, scaled}
use Rattle.tv_core.specs.Constraints.{Combination, value}
use Rattle.tv_core.specs.Laws.{Assigns, Meets, HasFrom, Fills, InField}
use Rattle.tv_core.specs.Meanings.{terms_in}
use Rattle.tv_core.specs.declared.field.TheConstants.{P}
use Rattle.tv_word.specs.Operations.{cmpe_flag, cmpa_flag, cmpae_flag, cmpg_flag, cmpge_flag}
use Rattle.tv_word.specs.Widths.{IsWidth}
use Rattle.tv_word.specs.Word.{flag_of}

-- whether a is above b, as signed words where by_sign is 1; where strict is not 1, whether it is at least b
abbrev pub is_above : ℕ → ℕ → ℕ → ℕ → ℕ → Bool
is_above w by_sign strict a b =
    if by_sign == 1 then (if strict == 1 then cmpg_flag w a b else cmpge_flag w a b)
    else (if strict == 1 then cmpa_flag a b else cmpae_flag a b)

-- the halves of the row for words a and b: a - b, less 1 where strict is 1, modulo 2 ^ w; and 1 where a is above b, else 0
abbrev pub difference_low : ℕ → ℕ → ℕ → ℕ → ℕ
difference_low w strict a b = (a + (2 ^ w - b) - strict) % 2 ^ w

abbrev pub difference_high : ℕ → ℕ → ℕ → ℕ → ℕ → ℕ
difference_high w by_sign strict a b = flag_of (is_above w by_sign strict a b)

-- how two words are compared: as signed words where by_sign is 1, and strictly where strict is 1; these two as numbers, or
-- as the combinations that have them
pub record Comparison (A : Type 0) : Type 0 where
  pub by_sign : A
  pub strict : A

-- a comparison by these two
abbrev pub comparing : {A : Type 0} → A → A → Comparison A
comparing by_sign strict = record { by_sign = by_sign; strict = strict }

-- the row's halves are those of the words a and b
pub record IsRowDifference (w : ℕ) (z : List ℕ) (row : DoubleRow) (order : Comparison ℕ) (a b : ℕ) : Type 0 where
  pub low : slice_index z row.low ≡ difference_low w order.strict a b
  pub high : slice_index z row.high ≡ difference_high w order.by_sign order.strict a b

-- the sign of x less that of y
abbrev pub sign_difference : SignedWord → SignedWord → Combination
sign_difference x y = (P - 1, y.sign) ∷ (1, x.sign) ∷ []

-- 2 ^ w + x, less 1 where strict is 1
abbrev pub minuend : ℕ → Combination → ℕ → Combination
minuend w strict x = (2 ^ w % P, 0) ∷ (scaled (P - 1) strict ++ wire x)

-- y and a row's number, with 2 ^ w times the difference of the signs
abbrev pub subtrahend : ℕ → ℕ → DoubleRow → ℕ → Combination
subtrahend w y row signs = wire y ++ (row_number w row ++ (2 ^ w % P, signs) ∷ [])

-- under the gate, a row's number is 2 ^ w + x - y, less 1 where strict is 1; where by_sign is 1, x and y count with their
-- highest bits crossed over, so that they are ordered as signed words
unfoldable pub row_difference_of : ℕ → Combination → Comparison Combination → SignedWord → SignedWord → DoubleRow → Circuit (Unit {0})
row_difference_of w gate order x y row = do
  signs ← times_of order.by_sign (sign_difference x y)
  gated_of gate (minuend w order.strict x.word) (subtrahend w y.word row signs)

-- the value of the wire that is made, where the signs are those of a and b
abbrev pub row_difference_values : ℕ → ℕ → ℕ → ℕ → List ℕ
row_difference_values w by_sign a b = times_values by_sign ((bit_at a (w - 1) + (P - bit_at b (w - 1))) % P)

-- where the gate is 1, a row that satisfies the constraints is the difference of the words
abbrev pub RowDifferenceIsSound : Type 0
RowDifferenceIsSound = (w : ℕ) → IsWidth w → (z : List ℕ) (next : ℕ) (gate by_sign strict : Combination) (x y : SignedWord) (row : DoubleRow) (a b : ℕ)
    → Assigns z
    → value gate z ≡ 1 → IsBit (value by_sign z) → IsBit (value strict z) → HoldsSigned w z x a → HoldsSigned w z y b
    → IsRow w (slice_index z row.low) (slice_index z row.high) → Meets z (row_difference_of w gate (comparing by_sign strict) x y row next).list
    → IsRowDifference w z row (comparing (value by_sign z) (value strict z)) a b

-- the low half is 0 exactly where the words are the same, strict being 0
abbrev pub RowDifferenceEqual : Type 0
RowDifferenceEqual = (w : ℕ) → IsWidth w → (a b : ℕ) → a < 2 ^ w → b < 2 ^ w → (difference_low w 0 a b == 0) ≡ cmpe_flag a b

-- the difference of two words is a row; with the value of the wire that was made, a row that holds it satisfies the constraints,
-- and where the gate is 0 any row does
pub record RowDifferenceIsComplete : Type 0 where
  pub row : (w : ℕ) → IsWidth w → (by_sign strict a b : ℕ) → IsRow w (difference_low w strict a b) (difference_high w by_sign strict a b)
  pub on : (w : ℕ) → IsWidth w → (z : List ℕ) (next : ℕ) (gate by_sign strict : Combination) (x y : SignedWord) (row : DoubleRow) (a b : ℕ) → Assigns z
      → IsBit (value by_sign z) → IsBit (value strict z) → HoldsSigned w z x a → HoldsSigned w z y b
      → IsRowDifference w z row (comparing (value by_sign z) (value strict z)) a b
      → HasFrom z next (row_difference_values w (value by_sign z) a b) → Meets z (row_difference_of w gate (comparing by_sign strict) x y row next).list
  pub off : (w : ℕ) (z : List ℕ) (next : ℕ) (gate by_sign strict : Combination) (x y : SignedWord) (row : DoubleRow) (a b : ℕ) → Assigns z
      → value gate z ≡ 0 → slice_index z x.sign ≡ bit_at a (w - 1) → slice_index z y.sign ≡ bit_at b (w - 1)
      → HasFrom z next (row_difference_values w (value by_sign z) a b) → Meets z (row_difference_of w gate (comparing by_sign strict) x y row next).list

-- where it ends, and that the values are one number of the field for each wire that is made
pub record RowDifferenceSizes : Type 0 where
  pub end : (w : ℕ) (gate by_sign strict : Combination) (x y : SignedWord) (row : DoubleRow) (next : ℕ)
      → (row_difference_of w gate (comparing by_sign strict) x y row next).next ≡ next + 1
  pub fills : (w : ℕ) (gate by_sign strict : Combination) (x y : SignedWord) (row : DoubleRow) (v a b : ℕ)
      → Fills (row_difference_of w gate (comparing by_sign strict) x y row) (row_difference_values w v a b)
  pub in_field : (w v a b : ℕ) → InField (row_difference_values w v a b)

-- how many constraints and terms there are
pub record RowDifferenceCosts : Type 0 where
  pub constraints : (w : ℕ) (gate by_sign strict : Combination) (x y : SignedWord) (row : DoubleRow) (next : ℕ)
      → length (row_difference_of w gate (comparing by_sign strict) x y row next).list ≡ 2
  pub terms : (w : ℕ) (gate by_sign strict : Combination) (x y : SignedWord) (row : DoubleRow) (next : ℕ)
      → terms_in (row_difference_of w gate (comparing by_sign strict) x y row next).list ≡ length gate + length by_sign + length strict + 9
