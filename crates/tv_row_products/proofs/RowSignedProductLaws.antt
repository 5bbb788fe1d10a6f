-- The laws of a signed product in a row.
use Rattle.tv_core.proofs.Common.{◌≡◌, ℕ, ◌+◌, ◌-◌, ◌*◌, ◌/◌, ◌%◌, ◌^◌, ◌<◌, List, [], ◌∷◌, refl, sym, ◌∙◌, ap, ap₂, arith, slice_index, bit_at, value-cons}
use Rattle.tv_core.proofs.Common.{value-wire, fresh, put, pure, ◌>>=◌, wire, value, Assigns, Meets, HasFrom, IsWidth}
use Rattle.tv_bits.proofs.DoubleRowLaws.{value-row_number}
use Rattle.tv_bits.proofs.GateLaws.{gated_sound, gated_complete}
use Rattle.tv_bits.proofs.RowNumbers.{row_low, row_high, row_whole}
use Rattle.tv_bits.proofs.BitNumbers.{HasBits-below, HasBits-bit_at}
use Rattle.tv_bits.proofs.TimesLaws.{times_sound, times_complete, times_sizes}
use Rattle.tv_bits.specs.DoubleRow.{HasRowBits, whole, row_number}
use Rattle.tv_bits.specs.Gate.{gated_of}
use Rattle.tv_bits.specs.Nonzero.{nonzero_flag}
use Rattle.tv_bits.specs.SignedWords.{HoldsSigned}
use Rattle.tv_bits.specs.Times.{times_of}
use Rattle.tv_bits.specs.declared.double_rows.DoubleRow.{DoubleRow}
use Rattle.tv_bits.specs.declared.signed_words.SignedWord.{SignedWord}
use Rattle.tv_core.proofs.CombinationLaws.{value-empty}
use Rattle.tv_core.specs.declared.field.TheConstants.{P}
use Rattle.tv_row_products.proofs.SignedNumbers.{Stands, Stands-product, Stands-signed, Stands-exact, Stands-meets, signed_value, most_product, twos-below}
use Rattle.tv_row_products.proofs.SignedNumbers.{over_flag}
use Rattle.tv_row_products.specs.RowSignedProduct.{IsRowSignedProduct, sign_weight, signed_word, signed_in, signed_row, row_signed_product_of}
use Rattle.tv_row_products.specs.RowSignedProduct.{row_signed_product_values, RowSignedProductIsSound, RowSignedProductFits, RowSignedProductIsComplete}
use Rattle.tv_row_products.specs.RowSignedProduct.{RowSignedProductSizes, RowSignedProductCosts}
use Rattle.tv_word.specs.Operations.{signed_product, product_twos}
use Rattle.tv_word.specs.Word.{signed}

-- ---- the numbers
-- a word less 2 ^ w times its highest bit is what it is in two's complement
signed_in_is : (w : ℕ) → IsWidth w → (v : ℕ) → v < 2 ^ w → signed_in w v (bit_at v (w - 1)) ≡ signed_value w v
signed_in_is w width v h = grind arith

row_signed_is : (w : ℕ) → IsWidth w → (n : ℕ) → n < 2 ^ (2 * w) → (sign_weight (2 * w) * bit_at n (2 * w - 1) + n) % P ≡ signed_value (2 * w) n
row_signed_is w width n h = grind arith

row_top : (w : ℕ) → IsWidth w → (low high : ℕ) → low < 2 ^ w → high < 2 ^ w → bit_at (whole w low high) (2 * w - 1) ≡ bit_at high (w - 1)
row_top w width low high h k = grind arith

row_long : (w : ℕ) → IsWidth w → (low high : ℕ) → low < 2 ^ w → high < 2 ^ w → whole w low high < 2 ^ (2 * w)
row_long w width low high h k = grind arith

halves_words : (w : ℕ) → IsWidth w → (n : ℕ) → n < 2 ^ (2 * w) → (n % 2 ^ w < 2 ^ w) × (n / 2 ^ w < 2 ^ w)
halves_words w width n h = (grind arith, grind arith)

low_bit : (w : ℕ) → IsWidth w → (n : ℕ) → bit_at (n % 2 ^ w) (w - 1) ≡ bit_at n (w - 1)
low_bit w width n = grind arith

-- what the product of two words stands for
stands : (w : ℕ) → IsWidth w → (a b : ℕ) → a < 2 ^ w → b < 2 ^ w → Stands (signed_value w a * signed_value w b) (signed_product w a b) (most_product w)
stands w width a b h k = Stands-product (signed_value w a) (signed_value w b) (signed w a) (signed w b) (2 ^ (w - 1)) (2 ^ (w - 1))
    (Stands-signed w width a h) (Stands-signed w width b k)

pub signed_product_fits : RowSignedProductFits
signed_product_fits w width a b h k =
    let n = product_twos w a b in
    ap (λ t. nonzero_flag ((n / 2 ^ w + (P - (2 ^ w - 1)) * t) % P)) (low_bit w width n)
    ∙ over_flag w width (signed_value w a * signed_value w b) n (signed_product w a b) (stands w width a b h k) refl

-- ---- the combinations
module _ (z : List ℕ) (assigns : Assigns z) where
  value-signed_word : (w : ℕ) (x : SignedWord) → value (signed_word w x) z ≡ signed_in w (slice_index z x.word) (slice_index z x.sign)
  value-signed_word w x =
      let c = sign_weight w in
      value-cons 1 x.word ((c, x.sign) ∷ []) z
      ∙ ap (λ n. (1 * slice_index z x.word + n) % P) (value-cons c x.sign [] z ∙ ap (λ n. (c * slice_index z x.sign + n) % P) (value-empty z))
      ∙ flat (slice_index z x.word) (c * slice_index z x.sign)
    where
      flat : (v p : ℕ) → (1 * v + (p + 0) % P) % P ≡ (v + p) % P
      flat v p = omega arith

  value-product : (w : ℕ) → IsWidth w → (x y : SignedWord) (a b : ℕ) → HoldsSigned w z x a → HoldsSigned w z y b
      → value (signed_word w x) z * value (signed_word w y) z % P ≡ signed_value w a * signed_value w b % P
  value-product w width x y a b p q = search (arith, value-signed_word, signed_in_is)

  value-signed_row : (w : ℕ) → IsWidth w → (row : DoubleRow) → HasRowBits w z row
      → value (signed_row w row) z ≡ signed_value (2 * w) (whole w (slice_index z row.low) (slice_index z row.high))
  value-signed_row w width row s =
      let low = slice_index z row.low in
      let high = slice_index z row.high in
      let c = sign_weight (2 * w) in
      let place : row.first + (2 * w - 1) ≡ row.first + w + (w - 1) = omega arith in
      let top = ap (slice_index z) place ∙ HasBits-bit_at s.high (w - 1) (omega arith)
      ∙ sym (row_top w width low high (HasBits-below s.low) (HasBits-below s.high)) in
      value-cons c (row.first + (2 * w - 1)) (row_number w row) z ∙ ap₂ (λ m n. (c * m + n) % P) top (value-row_number w z row assigns)
      ∙ flat (c * bit_at (whole w low high) (2 * w - 1)) (whole w low high)
      ∙ row_signed_is w width (whole w low high) (row_long w width low high (HasBits-below s.low) (HasBits-below s.high))
    where
      flat : (p n : ℕ) → (p + n % P) % P ≡ (p + n) % P
      flat p n = omega arith

pub row_signed_product_sound : RowSignedProductIsSound
unfolding row_signed_product_of times_of fresh put pure ◌>>=◌
row_signed_product_sound w width z next gate x y row a b assigns one p q s meets =
    let low = slice_index z row.low in
    let high = slice_index z row.high in
    let product = times_sound z next (signed_word w x) (signed_word w y) assigns (meets.0, tt) ∙ value-product z assigns w width x y a b p q in
    let same = sym product ∙ sym (value-wire assigns next) ∙ sym (gated_sound z (next + 1) gate (signed_row w row) (wire next) one meets.1)
    ∙ value-signed_row z assigns w width row s in
    let is : whole w low high ≡ product_twos w a b
    = Stands-exact w width (signed_value w a * signed_value w b) (whole w low high) (signed_product w a b) (stands w width a b p.small q.small)
    (row_long w width low high (HasBits-below s.low) (HasBits-below s.high)) same in
    record {
      low = row_low w width low high (product_twos w a b) (HasBits-below s.low) is;
      high = row_high w width low high (product_twos w a b)
          (HasBits-below s.low) is;
    }

on_values : (w : ℕ) → IsWidth w → (z : List ℕ) (next : ℕ) (x y : SignedWord) (row : DoubleRow) (a b : ℕ) → Assigns z → HoldsSigned w z x a
    → HoldsSigned w z y b → HasRowBits w z row → IsRowSignedProduct w z row a b
    → slice_index z next ≡ signed_in w a (bit_at a (w - 1)) * signed_in w b (bit_at b (w - 1)) % P → value (signed_row w row) z ≡ value (wire next) z
on_values w width z next x y row a b assigns p q s is product =
    let numbers : whole w (slice_index z row.low) (slice_index z row.high) ≡ product_twos w a b = ap₂ (whole w) is.low is.high
    ∙ row_whole w (product_twos w a b) in
    let made = product ∙ ap₂ (λ m n. m * n % P) (signed_in_is w width a p.small) (signed_in_is w width b q.small) in
    value-signed_row z assigns w width row s
    ∙ sym (Stands-meets w width (signed_value w a * signed_value w b) (whole w (slice_index z row.low) (slice_index z row.high)) (signed_product w a b)
    (stands w width a b p.small q.small) numbers) ∙ sym made ∙ sym (value-wire assigns next)

product_met : (w : ℕ) (z : List ℕ) (next : ℕ) (x y : SignedWord) → Assigns z
    → HasFrom z next (row_signed_product_values w (slice_index z x.word) (slice_index z x.sign) (slice_index z y.word) (slice_index z y.sign))
    → Meets z (times_of (signed_word w x) (signed_word w y) next).list
product_met w z next x y assigns has = search (arith, times_complete, value-signed_word)

pub row_signed_product_complete : RowSignedProductIsComplete
unfolding row_signed_product_of times_of fresh put pure ◌>>=◌
row_signed_product_complete = record {
  words = λ w width a b. halves_words w width (product_twos w a b) (twos-below w width (signed_product w a b));
  on = λ w width z next gate x y row a b assigns p q s is has.
      let signs = ap₂ (λ m n. m * n % P) (ap₂ (signed_in w) (sym p.word) (sym p.sign)) (ap₂ (signed_in w) (sym q.word) (sym q.sign)) in (
        (product_met w z next x y assigns (
          has.0 ∙ signs,
          tt,
        )).0,
        gated_complete.same z (next + 1) gate (signed_row w row) (wire next) (on_values w width z next x y row a b assigns p q s is has.0),
      );
  off = λ w z next gate x y row assigns none has.
      ((product_met w z next x y assigns has).0, gated_complete.off z (next + 1) gate (signed_row w row) (wire next) none);
}

pub row_signed_product_sizes : RowSignedProductSizes
unfolding row_signed_product_of times_of gated_of fresh put pure ◌>>=◌
row_signed_product_sizes = record {
  end = λ w gate x y row next. refl;
  fills = λ w gate x y row a s b t next. refl;
  in_field = λ w a s b t. times_sizes.in_field (signed_in w a s) (signed_in w b t);
}

pub row_signed_product_cost_laws : RowSignedProductCosts
unfolding row_signed_product_of times_of gated_of fresh put pure ◌>>=◌
row_signed_product_cost_laws = record { constraints = λ w gate x y row next. refl; terms = λ w gate x y row next. omega arith }
