-- Two words compared.
use Rattle.std.specs.Prelude.{◌≡◌, ℕ, ◌+◌, ◌-◌, ◌/◌, ◌%◌, List, [], ◌∷◌, ◌++◌, slice_index}
use Rattle.tv_bits.specs.Bit.{bit_of}
use Rattle.tv_bits.specs.Bits.{HasBits, bits_combination, bits_values, new_bits_of}
use Rattle.tv_bits.specs.Order.{first_difference}
use Rattle.tv_bits.specs.Prefixes.{prefix_difference_of, prefix_difference_values}
use Rattle.tv_bits.specs.Times.{times_of, kept_of}
use Rattle.tv_bits.specs.declared.bit_wires.Bits.{Bits}
use Rattle.tv_cmp.specs.declared.comparison.Cmp.{Cmp}
use Rattle.tv_core.specs.Circuits.{Circuit, fresh, put, pure, ◌>>=◌}
use Rattle.tv_core.specs.Combinations.{wire, constant, less}
use Rattle.tv_core.specs.Constraints.{Combination}
use Rattle.tv_core.specs.Laws.{Assigns, Meets, HasFrom, Fills, InField}
use Rattle.tv_core.specs.declared.field.TheConstants.{P}
use Rattle.tv_word.specs.Operations.{cmpe_flag, cmpa_flag, cmpg_flag}
use Rattle.tv_word.specs.Widths.{IsWidth}
use Rattle.tv_word.specs.Word.{flag_of}

-- ---- the relation
-- 1 where x is y, where x is above y, and where x is greater than y as signed words of w bits; else 0
abbrev pub equal_flag : ℕ → ℕ → ℕ
equal_flag x y = flag_of (cmpe_flag x y)

abbrev pub above_flag : ℕ → ℕ → ℕ
above_flag x y = flag_of (cmpa_flag x y)

abbrev pub greater_flag : ℕ → ℕ → ℕ → ℕ
greater_flag w x y = flag_of (cmpg_flag w x y)

-- the three wires hold the flags of x and y
pub record IsCompared (w : ℕ) (z : List ℕ) (cmp : Cmp) (x y : ℕ) : Type 0 where
  pub equal : slice_index z cmp.equal ≡ equal_flag x y
  pub above : slice_index z cmp.above ≡ above_flag x y
  pub greater : slice_index z cmp.greater ≡ greater_flag w x y

-- ---- the circuit
-- the w wires from the first of a row on
abbrev pub word_bits : ℕ → Bits → Bits
word_bits w x = record { first = x.first; n = w }

-- above is a bit; equal is 0 unless the numbers are the same; one of the two is 0
unfoldable pub order_flags_of : ℕ → ℕ → ℕ → Bits → Bits → Circuit (Unit {0})
order_flags_of w equal above x y = do
  _ ← bit_of above
  _ ← put (wire equal) (less (bits_combination x.first w) (bits_combination y.first w)) []
  put (wire above) (wire equal) []

-- 1 where above is 1, 0 where equal is 1, and -1 where both are 0
abbrev pub sign : ℕ → ℕ → Combination
sign equal above = (2, above) ∷ (1, equal) ∷ (P - 1, 0) ∷ []

-- a new wire that is from 1 to 2 ^ c, times the sign
unfoldable pub signed_size_of : ℕ → ℕ → ℕ → Circuit ℕ
signed_size_of c equal above = do
  size ← new_bits_of c
  times_of (sign equal above) (bits_combination size.first size.n ++ constant 1)

-- above, but where the sign bits x and y of the words differ, whether it is y that is 1
abbrev pub but_for_signs : ℕ → ℕ → ℕ → Combination
but_for_signs above x y = (1, above) ∷ (1, y) ∷ (P - 1, x) ∷ []

-- a new wire that is so
abbrev pub greater_of : ℕ → ℕ → Bits → Bits → Circuit ℕ
greater_of w above x y = kept_of (but_for_signs above (x.first + (w - 1)) (y.first + (w - 1)))

-- words of w bits, cut into four chunks: where x is above, some prefix is so by from 1 to 2 ^ (w / 4);
-- where y is above, some prefix of y; and where they are the same, each prefix is
unfoldable pub compare_of : ℕ → Bits → Bits → Circuit Cmp
compare_of w x y = do
  equal ← fresh
  above ← fresh
  _ ← order_flags_of w equal above x y
  difference ← signed_size_of (w / 4) equal above
  _ ← prefix_difference_of (word_bits w x) (word_bits w y) (wire difference) (w / 4) 4
  greater ← greater_of w above x y
  pure (record { equal = equal; above = above; greater = greater })

-- ---- the values
-- how far the shortest prefixes that differ are apart, and the same with the sign of x less y
abbrev pub size : ℕ → ℕ → ℕ → ℕ
size w x y = first_difference (w / 4) 4 x y + first_difference (w / 4) 4 y x

abbrev pub signed_size : ℕ → ℕ → ℕ → ℕ
signed_size w x y = (first_difference (w / 4) 4 x y + (P - first_difference (w / 4) 4 y x)) % P

-- the values of the wires that are made
abbrev pub compare_values : ℕ → ℕ → ℕ → List ℕ
compare_values w x y =
    equal_flag x y ∷ above_flag x y ∷ (bits_values (size w x y - 1) (w / 4)
    ++ signed_size w x y ∷ (prefix_difference_values x y (signed_size w x y) (w / 4) 4 ++ greater_flag w x y ∷ []))

-- ---- the laws
-- an assignment that satisfies the constraints for bits that represent two words has their flags
abbrev pub CompareIsSound : Type 0
CompareIsSound = (w : ℕ) → IsWidth w → (z : List ℕ) (next : ℕ) (x y : Bits) (a b : ℕ) → Assigns z → HasBits z x.first w a → HasBits z y.first w b
    → Meets z (compare_of w x y next).list → IsCompared w z (compare_of w x y next).answer a b

-- an assignment that has the values of two words at the wires that were made satisfies the constraints
abbrev pub CompareIsComplete : Type 0
CompareIsComplete = (w : ℕ) → IsWidth w → (z : List ℕ) (next : ℕ) (x y : Bits) (a b : ℕ) → Assigns z → HasBits z x.first w a → HasBits z y.first w b
    → HasFrom z next (compare_values w a b) → Meets z (compare_of w x y next).list

-- what the circuit returns and where it ends; it has one value for each wire that it makes, all in the field
pub record CompareSizes : Type 0 where
  pub answer : (w : ℕ) (x y : Bits) (next : ℕ) → (compare_of w x y next).answer ≡ record { equal = next; above = next + 1; greater = next + (w / 4 + 5) }
  pub end : (w : ℕ) (x y : Bits) (next : ℕ) → (compare_of w x y next).next ≡ next + (w / 4 + 6)
  pub fills : (w : ℕ) (x y : Bits) (a b : ℕ) → Fills (compare_of w x y) (compare_values w a b)
  pub in_field : (w a b : ℕ) → InField (compare_values w a b)
