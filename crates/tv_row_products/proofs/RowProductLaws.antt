-- The laws of a product in a row.
use Rattle.tv_core.proofs.Common.{◌≡◌, ℕ, ◌+◌, ◌-◌, ◌*◌, ◌%◌, ◌^◌, ◌<◌, ◌≤◌, List, refl, arith, slice_index, value-wire, fresh, put, pure, ◌>>=◌, wire, value}
use Rattle.tv_core.proofs.Common.{Assigns, IsWidth}
use Rattle.std.proofs.lemmas.Nat.{mul-le}
use Rattle.tv_bits.proofs.DoubleRowLaws.{value-row_number}
use Rattle.tv_bits.proofs.GateLaws.{gated_sound, gated_complete}
use Rattle.tv_bits.proofs.RowNumbers.{row_below, row_is, row_low, row_high, row_of, row_whole}
use Rattle.tv_bits.proofs.TimesLaws.{times_sizes}
use Rattle.tv_bits.proofs.WireProducts.{wires_sound, wires_complete}
use Rattle.tv_bits.specs.DoubleRow.{row_number}
use Rattle.tv_bits.specs.Gate.{gated_of}
use Rattle.tv_bits.specs.Times.{times_of}
use Rattle.tv_bits.specs.declared.double_rows.DoubleRow.{DoubleRow}
use Rattle.tv_core.specs.declared.field.TheConstants.{P}
use Rattle.tv_row_products.specs.RowProduct.{IsRowProduct, row_product_of, RowProductIsSound, RowProductIsComplete, RowProductSizes, RowProductCosts}

-- the numbers
product_small : (w : ℕ) → IsWidth w → (a b : ℕ) → a < 2 ^ w → b < 2 ^ w → a * b < P
product_small w width a b h k = let most = mul-le a b (2 ^ w - 1) (2 ^ w - 1) (omega arith) (omega arith) in grind arith

product_short : (w : ℕ) → IsWidth w → (a b : ℕ) → a < 2 ^ w → b < 2 ^ w → a * b ≤ 2 ^ w * (2 ^ w - 1)
product_short w width a b h k = let most = mul-le a b (2 ^ w - 1) (2 ^ w - 1) (omega arith) (omega arith) in grind arith

pub row_product_sound : RowProductIsSound
unfolding row_product_of times_of fresh put pure ◌>>=◌
row_product_sound w width z next gate x y row assigns one a_word b_word r meets =
    search (arith, value-row_number, gated_sound, value-wire, wires_sound, row_is, row_below, product_small, row_low, row_high)

row_product_on : (w : ℕ) (z : List ℕ) (next x y : ℕ) (row : DoubleRow) → Assigns z → IsRowProduct w z row (slice_index z x) (slice_index z y)
    → slice_index z next ≡ slice_index z x * slice_index z y % P → value (row_number w row) z ≡ value (wire next) z
row_product_on w z next x y row assigns is product = search (arith, row_whole, value-row_number, value-wire)

pub row_product_complete : RowProductIsComplete
unfolding row_product_of times_of fresh put pure ◌>>=◌
row_product_complete = record {
  row = λ w width a b h k. row_of w width (a * b) (product_short w width a b h k);
  on = λ w z next gate x y row assigns is has. (
    (wires_complete z next x y assigns has.0).0,
    gated_complete.same z (next + 1) gate (row_number w row) (wire next)
        (row_product_on w z next x y row assigns is has.0),
  );
  off = λ w z next gate x y row assigns none has.
      ((wires_complete z next x y assigns has.0).0, gated_complete.off z (next + 1) gate (row_number w row) (wire next) none);
}

pub row_product_sizes : RowProductSizes
unfolding row_product_of times_of gated_of fresh put pure ◌>>=◌
row_product_sizes = record { end = λ w gate x y row next. refl; fills = λ w gate x y row a b next. refl; in_field = times_sizes.in_field }

pub row_product_cost_laws : RowProductCosts
unfolding row_product_of times_of gated_of fresh put pure ◌>>=◌
row_product_cost_laws = record { constraints = λ w gate x y row next. refl; terms = λ w gate x y row next. omega arith }

pub ruleset row_product_laws = (row_product_sound, row_product_complete, row_product_sizes, row_product_cost_laws)
