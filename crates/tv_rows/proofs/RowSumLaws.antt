-- The laws of a sum in a row.
use Rattle.tv_core.proofs.Common.{◌≡◌, ℕ, ◌+◌, ◌*◌, ◌%◌, ◌^◌, ◌<◌, List, ◌++◌, sym, ◌∙◌, ap₂, arith, slice_index, nat_tests, value-append, value-wire, wire}
use Rattle.tv_core.proofs.Common.{value, Assigns, IsWidth}
use Rattle.tv_bits.proofs.DoubleRowLaws.{value-row_number}
use Rattle.tv_bits.proofs.GateLaws.{gated_sound, gated_complete, gated_sizes, gated_cost_laws}
use Rattle.tv_bits.proofs.RowNumbers.{row_below, row_is, row_low}
use Rattle.tv_bits.specs.DoubleRow.{IsRow, whole, row_number}
use Rattle.tv_bits.specs.declared.double_rows.DoubleRow.{DoubleRow}
use Rattle.tv_core.specs.declared.field.TheConstants.{P}
use Rattle.tv_rows.specs.RowSum.{IsRowSum, row_sum_of, RowSumIsSound, RowSumIsComplete, RowSumSizes, RowSumCosts, carry}

-- the numbers
sum_small : (w : ℕ) → IsWidth w → (a b : ℕ) → a < 2 ^ w → b < 2 ^ w → a + b < P
sum_small w width a b h k = grind arith

sum_high : (w : ℕ) → IsWidth w → (low high a b : ℕ) → low < 2 ^ w → a < 2 ^ w → b < 2 ^ w → low + 2 ^ w * high ≡ a + b → high ≡ carry w a b
sum_high w width low high a b l h k e = grind (arith, nat_tests)

sum_row : (w : ℕ) → IsWidth w → (a b : ℕ) → a < 2 ^ w → b < 2 ^ w → IsRow w ((a + b) % 2 ^ w) (carry w a b)
sum_row w width a b h k = record { low_word = grind arith; high_word = grind (arith, nat_tests); edge = λ full. grind (arith, nat_tests) }

sum_whole : (w : ℕ) → IsWidth w → (a b : ℕ) → a < 2 ^ w → b < 2 ^ w → (a + b) % 2 ^ w + 2 ^ w * carry w a b ≡ a + b
sum_whole w width a b h k = grind (arith, nat_tests)

value-words : (z : List ℕ) (x y : ℕ) → Assigns z → value (wire x ++ wire y) z ≡ (slice_index z x + slice_index z y) % P
value-words z x y assigns = value-append (wire x) (wire y) z ∙ ap₂ (λ m n. (m + n) % P) (value-wire assigns x) (value-wire assigns y)

pub row_sum_sound : RowSumIsSound
unfolding row_sum_of
row_sum_sound w width z next gate x y row assigns one a_word b_word r meets =
    let low = slice_index z row.low in
    let high = slice_index z row.high in
    let a = slice_index z x in
    let b = slice_index z y in
    let same = sym (value-words z x y assigns) ∙ gated_sound z next gate (wire x ++ wire y) (row_number w row) one meets ∙ value-row_number w z row assigns in
    let is : whole w low high ≡ a + b = row_is (whole w low high) (a + b) (row_below w width low high r) (sum_small w width a b a_word b_word) (sym same) in
    record { low = row_low w width low high (a + b) r.low_word is; high = sum_high w width low high a b r.low_word a_word b_word is }

row_sum_on : (w : ℕ) → IsWidth w → (z : List ℕ) (x y : ℕ) (row : DoubleRow) → Assigns z → slice_index z x < 2 ^ w → slice_index z y < 2 ^ w
    → IsRowSum w z row (slice_index z x) (slice_index z y)
    → value (wire x ++ wire y) z ≡ value (row_number w row) z
row_sum_on w width z x y row assigns a_word b_word is = search (arith, sum_whole, value-words, value-row_number)

pub row_sum_complete : RowSumIsComplete
unfolding row_sum_of
row_sum_complete = record {
  row = sum_row;
  on = λ w width z next gate x y row assigns a_word b_word is. gated_complete.same z next gate (wire x ++ wire y) (row_number w row)
      (row_sum_on w width z x y row assigns a_word b_word is);
  off = λ w z next gate x y row none. gated_complete.off z next gate (wire x ++ wire y) (row_number w row) none;
}

pub row_sum_sizes : RowSumSizes
unfolding row_sum_of
row_sum_sizes = record {
  end = λ w gate x y row next. gated_sizes.end gate (wire x ++ wire y) (row_number w row) next;
  fills = λ w gate x y row. gated_sizes.fills gate (wire x ++ wire y) (row_number w row);
  in_field = gated_sizes.in_field;
}

pub row_sum_cost_laws : RowSumCosts
unfolding row_sum_of
row_sum_cost_laws = record {
  constraints = λ w gate x y row next. gated_cost_laws.constraints gate (wire x ++ wire y) (row_number w row) next;
  terms = λ w gate x y row next. gated_cost_laws.terms gate (wire x ++ wire y) (row_number w row) next ∙ omega arith;
}

pub ruleset row_sum_laws = (row_sum_sound, row_sum_complete, row_sum_sizes, row_sum_cost_laws)
