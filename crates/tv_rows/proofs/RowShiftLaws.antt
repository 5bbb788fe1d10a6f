-- The laws of shifts on a row of twice a word's width.
use Rattle.tv_core.proofs.Common.{◌≡◌, ℕ, ◌+◌, ◌*◌, ◌%◌, ◌^◌, List, [], refl, sym, ◌∙◌, ap, ap₂, arith, slice_index, value-wire, value-cons, fresh, put, pure}
use Rattle.tv_core.proofs.Common.{◌>>=◌, wire, value, Assigns, Meets, HasFrom}
use Rattle.std.proofs.Common.{add-zero}
use Rattle.std.proofs.lemmas.Nat.{mul-mod_first}
use Rattle.tv_bits.proofs.DoubleRowLaws.{value-row_number}
use Rattle.tv_bits.proofs.GateLaws.{gated_sound, gated_complete}
use Rattle.tv_bits.proofs.TimesLaws.{times_sound, times_complete, times_sizes}
use Rattle.tv_bits.specs.DoubleRow.{whole, row_number}
use Rattle.tv_bits.specs.Gate.{gated_of}
use Rattle.tv_bits.specs.Times.{times_of}
use Rattle.tv_bits.specs.declared.double_rows.DoubleRow.{DoubleRow}
use Rattle.tv_core.proofs.CombinationLaws.{value-empty}
use Rattle.tv_core.specs.declared.field.TheConstants.{P}
use Rattle.tv_rows.proofs.RowShiftNumbers.{right_row, right_times, right_number, right_low_is, right_high_is}
use Rattle.tv_rows.specs.RowShift.{raised, right_shift_of, right_shift_values, RightShiftIsSound, RightShiftIsComplete, RightShiftSizes, RightShiftCosts}

-- a wire times 2 ^ w
value-raised : (z : List ℕ) → Assigns z → (w v : ℕ) → value (raised w v) z ≡ 2 ^ w * slice_index z v % P
value-raised z assigns w v = value-cons (2 ^ w % P) v [] z ∙ ap (λ n. (2 ^ w % P * slice_index z v + n) % P) (value-empty z) ∙ flat (2 ^ w) (slice_index z v)
  where
    flat : (b n : ℕ) → (b % P * n + 0) % P ≡ b * n % P
    flat b n = ap (λ m. m % P) (add-zero (b % P * n)) ∙ mul-mod_first b n P

-- the product, where the power is 2 ^ m
right_product : (w : ℕ) (z : List ℕ) → Assigns z → (power m : ℕ) (row : DoubleRow) → slice_index z power ≡ 2 ^ m
    → value (row_number w row) z * value (wire power) z % P ≡ whole w (slice_index z row.low) (slice_index z row.high) * 2 ^ m % P
right_product w z assigns power m row e = search (arith, value-row_number, value-wire, mul-mod_first)

pub right_shift_sound : RightShiftIsSound
unfolding right_shift_of times_of fresh put pure ◌>>=◌
right_shift_sound w width z next gate v power row m assigns one word less e r meets =
    let product = times_sound z next (row_number w row) (wire power) assigns (meets.0, tt) ∙ right_product w z assigns power m row e in
    let same = gated_sound z (next + 1) gate (raised w v) (wire next) one meets.1 in
    let whole_is = right_number w width (slice_index z v) m word less (slice_index z row.low) (slice_index z row.high) r
    (sym product ∙ sym (value-wire assigns next) ∙ sym same ∙ value-raised z assigns w v) in
    record {
      low = right_low_is w width (slice_index z v) m word less (slice_index z row.low) (slice_index z row.high) r whole_is;
      high = right_high_is w width (slice_index z v) m word less (slice_index z row.low) (slice_index z row.high) r whole_is;
    }

right_met : (w : ℕ) (z : List ℕ) (next power : ℕ) (row : DoubleRow) → Assigns z
    → HasFrom z next (right_shift_values w (slice_index z row.low) (slice_index z row.high) (slice_index z power))
    → Meets z (times_of (row_number w row) (wire power) next).list
right_met w z next power row assigns has =
    times_complete z next (row_number w row) (wire power) assigns (has.0 ∙ sym (right_value w z power row assigns), tt)
  where
    right_value : (w : ℕ) (z : List ℕ) (power : ℕ) (row : DoubleRow) → Assigns z
        → value (row_number w row) z * value (wire power) z % P ≡ whole w (slice_index z row.low) (slice_index z row.high) * slice_index z power % P
    right_value w z power row assigns =
        ap₂ (λ n k. n * k % P) (value-row_number w z row assigns) (value-wire assigns power)
        ∙ mul-mod_first (whole w (slice_index z row.low) (slice_index z row.high)) (slice_index z power) P

pub right_shift_complete : RightShiftIsComplete
unfolding right_shift_of times_of fresh put pure ◌>>=◌
right_shift_complete = record {
  row = right_row;
  on = λ w width z next gate v power row m assigns word less e is has.
      let halves = ap₂ (λ n k. n * k) (ap₂ (whole w) is.low is.high) e ∙ right_times w width (slice_index z v) m word less in
      let product = value-wire assigns next ∙ has.0 ∙ ap (λ n. n % P) halves in
      ((right_met w z next power row assigns has).0, gated_complete.same z (next + 1) gate (raised w v) (wire next) (value-raised z assigns w v ∙ sym product));
  off = λ w z next gate v power row assigns none has.
      ((right_met w z next power row assigns has).0, gated_complete.off z (next + 1) gate (raised w v) (wire next) none);
}

pub right_shift_sizes : RightShiftSizes
unfolding right_shift_of times_of gated_of fresh put pure ◌>>=◌
right_shift_sizes = record {
  end = λ w gate v power row next. refl;
  fills = λ w gate v power row low high k next. refl;
  in_field = λ w low high k. times_sizes.in_field (whole w low high) k;
}

pub right_shift_cost_laws : RightShiftCosts
unfolding right_shift_of times_of gated_of fresh put pure ◌>>=◌
right_shift_cost_laws = record { constraints = λ w gate v power row next. refl; terms = λ w gate v power row next. omega arith }
