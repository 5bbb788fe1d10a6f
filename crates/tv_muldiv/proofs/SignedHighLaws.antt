-- The laws of the high word of a signed product.
use Rattle.tv_core.proofs.Common.{◌≡◌, ℕ, ◌+◌, ◌-◌, ◌*◌, ◌/◌, ◌%◌, ◌^◌, ◌≤◌, List, [], ◌∷◌, ◌++◌, refl, sym, subst, ◌∙◌, ap, ap₂, arith, slice_index}
use Rattle.tv_core.proofs.Common.{value-append, value-cons, Meets-split, Meets-join, HasFrom-split, fresh, put, pure, ◌>>=◌, value, Assigns, Meets, width_short}
use Rattle.tv_core.proofs.Common.{IsWidth}
use Rattle.std.proofs.Common.{length-append}
use Rattle.tv_core.proofs.FieldLaws.{InField-append}
use Rattle.tv_core.specs.declared.field.TheConstants.{P}
use Rattle.tv_bits.proofs.NewBitsLaws.{bits_are, bits_met}
use Rattle.tv_bits.proofs.BitNumbers.{HasBits-below, HasBits-bit_at, HasBits-low, HasBits-high, value-bits_below}
use Rattle.tv_bits.proofs.BitsLaws.{new_bits_answer, new_bits_next}
use Rattle.tv_bits.specs.Bits.{HasBits, binary_value, bits_combination, new_bits_of}
use Rattle.tv_bits.specs.declared.bit_wires.Bits.{Bits}
use Rattle.tv_muldiv.proofs.HalvesLaws.{length-halves, halves_are, halves_in_field}
use Rattle.tv_bits.proofs.NonzeroLaws.{nonzero_sound, nonzero_complete, nonzero_sizes}
use Rattle.tv_row_products.proofs.SignedNumbers.{signed_value, most_product, Stands, Stands-product, Stands-signed, Stands-exact, Stands-meets, twos-below}
use Rattle.tv_row_products.proofs.SignedNumbers.{over_flag}
use Rattle.tv_bits.specs.Nonzero.{nonzero_of, nonzero_flag, nonzero_values}
use Rattle.tv_row_products.specs.RowSignedProduct.{excess_in}
use Rattle.tv_muldiv.specs.SignedHigh.{signed_bits_of, excess, signed_high_of, SignedHighIsSound}
use Rattle.tv_muldiv.specs.SignedHigh.{SignedHighIsComplete, SignedHighSizes}
use Rattle.tv_muldiv.specs.Weighed.{signed_combination, halves_values}
use Rattle.tv_word.specs.Operations.{signed_product, product_twos}
use Rattle.tv_word.specs.Word.{signed}
use Rattle.tv_bits.specs.Zero.{zero_cases_of}

-- ---- values
-- bits, and one wire more with a coefficient of its own
value-more : (z : List ℕ) (first n v c w : ℕ) → n ≤ 63 → HasBits z first n v → value (bits_combination first n ++ (c, w) ∷ []) z ≡ (v + c * slice_index z w) % P
value-more z first n v c w short s =
    let last : (c * slice_index z w + 0) % P ≡ c * slice_index z w % P = omega arith in
    value-append (bits_combination first n) ((c, w) ∷ []) z
    ∙ ap₂ (λ m k. (m + k) % P) (value-bits_below s short) (value-cons c w [] z ∙ last)
    ∙ mod-sum v (c * slice_index z w)
  where
    mod-sum : (m k : ℕ) → (m + k % P) % P ≡ (m + k) % P
    mod-sum m k = omega arith

module _ (z : List ℕ) where
  value-signed : (first n v : ℕ) → 1 ≤ n → n ≤ 64 → HasBits z first n v → value (signed_combination first n) z ≡ signed_value n v
  value-signed first n v some short s = search (arith, HasBits-low, value-more, HasBits-bit_at)

  module _ (w : ℕ) (width : IsWidth w) where
    value-excess : (first n : ℕ) → HasBits z first (2 * w) n → value (excess first w) z ≡ excess_in w n
    value-excess first n s =
        let short = width_short w width in
        let place : 2 * w ≡ w + w = omega arith in
        let high = HasBits-high z first w w n (subst (λ k. HasBits z first k n) place s) in
        value-more z (first + w) w (n / 2 ^ w) (P - (2 ^ w - 1)) (first + (w - 1)) (omega arith) high
        ∙ ap (λ b. (n / 2 ^ w + (P - (2 ^ w - 1)) * b) % P) (HasBits-bit_at s (w - 1) (omega arith))

    -- the product of the two words stands for their signed product
    product_stands : (x y : Bits) (a b : ℕ) → HasBits z x.first w a → HasBits z y.first w b
        → Stands (value (signed_combination x.first w) z * value (signed_combination y.first w) z) (signed_product w a b) (most_product w)
    product_stands x y a b p q =
        let short = width_short w width in
        rw (value-signed x.first w a (omega arith) (omega arith) p, value-signed y.first w b (omega arith) (omega arith) q)
        (Stands-product _ _ (signed w a) (signed w b) (2 ^ (w - 1)) (2 ^ (w - 1)) (Stands-signed w width a (HasBits-below p))
        (Stands-signed w width b (HasBits-below q)))

-- ---- the bits of the product
signed_bits_answer : (w : ℕ) (x y : Bits) (next : ℕ) → (signed_bits_of w x y next).answer ≡ record { first = next; n = 2 * w }
unfolding signed_bits_of put pure ◌>>=◌
signed_bits_answer w x y next = new_bits_answer (2 * w) next

signed_bits_next : (w : ℕ) (x y : Bits) (next : ℕ) → (signed_bits_of w x y next).next ≡ next + 2 * w
unfolding signed_bits_of put pure ◌>>=◌
signed_bits_next w x y next = new_bits_next (2 * w) next

module _ (w : ℕ) (width : IsWidth w) (z : List ℕ) (assigns : Assigns z) (next : ℕ) (x y : Bits) (a b : ℕ) (p : HasBits z x.first w a)
    (q : HasBits z y.first w b) where
  signed_bits_sound : Meets z (signed_bits_of w x y next).list → HasBits z next (2 * w) (product_twos w a b)
  unfolding signed_bits_of put pure ◌>>=◌
  signed_bits_sound meets =
      let short = width_short w width in
      let both = rw new_bits_answer at (Meets-split z (new_bits_of (2 * w) next).list _ meets) in
      let s = bits_are z (2 * w) next assigns both.0 in
      let product = value (signed_combination x.first w) z * value (signed_combination y.first w) z in
      let same = Stands-exact w width product (binary_value z next (2 * w)) (signed_product w a b) (product_stands z w width x y a b p q) (HasBits-below s)
      (both.1.0 ∙ value-signed z next (2 * w) (binary_value z next (2 * w)) (omega arith) (omega arith) s) in
      subst (λ v. HasBits z next (2 * w) v) same s

  signed_bits_complete : HasBits z next (2 * w) (product_twos w a b) → Meets z (signed_bits_of w x y next).list
  unfolding signed_bits_of put pure ◌>>=◌
  signed_bits_complete s =
      let short = width_short w width in
      let both = value (signed_combination x.first w) z * value (signed_combination y.first w) z in
      let product = Stands-meets w width both (product_twos w a b) (signed_product w a b) (product_stands z w width x y a b p q) refl in
      Meets-join z (new_bits_of (2 * w) next).list _ (bits_met z (2 * w) next assigns s.bits)
      (rw new_bits_answer (product ∙ sym (value-signed z next (2 * w) (product_twos w a b) (omega arith) (omega arith) s), tt))

-- ---- the high word
pub signed_high_answer : (w : ℕ) (x y : Bits) (next : ℕ)
    → (signed_high_of w x y next).answer ≡ record { high = record { first = next + w; n = w }; over = next + 2 * w }
unfolding signed_high_of nonzero_of zero_cases_of fresh put pure ◌>>=◌
signed_high_answer w x y next = rw (signed_bits_answer, signed_bits_next) refl

pub signed_high_next : (w : ℕ) (x y : Bits) (next : ℕ) → (signed_high_of w x y next).next ≡ next + (2 * w + 2)
unfolding signed_high_of nonzero_of zero_cases_of fresh put pure ◌>>=◌
signed_high_next w x y next = omega (arith, signed_bits_next w x y next)

-- the circuit in two parts
high_parts : (w : ℕ) (z : List ℕ) (x y : Bits) (next : ℕ) → Meets z (signed_high_of w x y next).list
    → Meets z (signed_bits_of w x y next).list × Meets z (nonzero_of (excess next w) (next + 2 * w)).list
unfolding signed_high_of pure ◌>>=◌
high_parts w z x y next meets =
    let both = rw (signed_bits_answer, signed_bits_next) at (Meets-split z (signed_bits_of w x y next).list _ meets) in
    (both.0, (Meets-split z (nonzero_of (excess next w) (next + 2 * w)).list [] both.1).0)

high_whole : (w : ℕ) (z : List ℕ) (x y : Bits) (next : ℕ) → Meets z (signed_bits_of w x y next).list → Meets z (nonzero_of (excess next w) (next + 2 * w)).list
    → Meets z (signed_high_of w x y next).list
unfolding signed_high_of pure ◌>>=◌
high_whole w z x y next p q = search (arith, Meets-join, signed_bits_answer, signed_bits_next)

pub signed_high_sound : SignedHighIsSound
signed_high_sound w width z next x y a b assigns p q meets =
    let both = high_parts w z x y next meets in
    let s = signed_bits_sound w width z assigns next x y a b p q both.0 in
    let two = subst (λ n. HasBits z next n (product_twos w a b)) (let same : 2 * w ≡ w + w = omega arith in same) s in
    let product = value (signed_combination x.first w) z * value (signed_combination y.first w) z in
    let flag = over_flag w width product (product_twos w a b) (signed_product w a b) (product_stands z w width x y a b p q) refl in
    rw signed_high_answer (record {
      high = HasBits-high z next w w (product_twos w a b) two;
      over = rw nonzero_sizes.answer at (nonzero_sound z (next + 2 * w) (excess next w) assigns both.1)
          ∙ ap nonzero_flag (value-excess z w width next (product_twos w a b) s) ∙ flag;
    })

pub signed_high_complete : SignedHighIsComplete
signed_high_complete w width z next x y a b assigns p q has =
    let both = rw length-halves at (HasFrom-split z next (halves_values w (product_twos w a b)) (nonzero_values (excess_in w (product_twos w a b))) has) in
    let s = halves_are w width z next (product_twos w a b) (twos-below w width (signed_product w a b)) both.0 in
    let flag = value-excess z w width next (product_twos w a b) s in
    high_whole w z x y next (signed_bits_complete w width z assigns next x y a b p q s)
    (nonzero_complete z (next + 2 * w) (excess next w) assigns (rw (← flag) at both.1))

-- ---- how many values there are, and that they are numbers of the field
pub signed_high_sizes : SignedHighSizes
signed_high_sizes = record {
  answer = signed_high_answer;
  end = signed_high_next;
  fills = λ w x y a b next.
      let v = product_twos w a b in
      omega (arith, signed_high_next w x y next, length-append (halves_values w v) (nonzero_values (excess_in w v)), length-halves w v);
  in_field = λ w a b.
      let v = product_twos w a b in
      InField-append (halves_values w v) (nonzero_values (excess_in w v)) (halves_in_field w v) (nonzero_sizes.in_field (excess_in w v));
}
