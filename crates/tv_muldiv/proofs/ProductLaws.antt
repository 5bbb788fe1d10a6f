-- The laws of the product.
use Rattle.tv_core.proofs.Common.{◌≡◌, ℕ, ◌+◌, ◌-◌, ◌*◌, ◌/◌, ◌%◌, ◌^◌, ◌<◌, ◌≤◌, List, [], inl, inr, refl, sym, subst, ◌∙◌, ap, ap₂, arith, mod-eq_of_lt}
use Rattle.tv_core.proofs.Common.{slice_index, bit_at, cases_eq, value-wire, Meets-split, Meets-join, HasFrom-split, here, fresh, put, pure, ◌>>=◌, wire, value}
use Rattle.tv_core.proofs.Common.{Assigns, Meets, width_short, IsWidth}
use Rattle.std.proofs.Common.{length-append}
use Rattle.std.proofs.Common.{add-zero}
use Rattle.std.proofs.lemmas.Nat.{mul-le, mul-mod}
use Rattle.std.proofs.lemmas.Nat.Bits.{bit_at-lt, bit_at_lowest}
use Rattle.tv_core.proofs.FieldLaws.{InField-append}
use Rattle.tv_core.specs.declared.field.TheConstants.{P}
use Rattle.tv_bits.proofs.NewBitsLaws.{bits_are, bits_met}
use Rattle.tv_bits.proofs.BitNumbers.{HasBits-below, HasBits-bit_at, HasBits-low, HasBits-high, value-bits, value-bits_below}
use Rattle.tv_bits.proofs.BitsLaws.{new_bits_next}
use Rattle.tv_bits.specs.Bit.{IsBit}
use Rattle.tv_bits.specs.Bits.{HasBits, binary_value, bits_combination, new_bits_of}
use Rattle.tv_bits.specs.declared.bit_wires.Bits.{Bits}
use Rattle.tv_muldiv.proofs.HalvesLaws.{length-halves, halves_are, halves_in_field}
use Rattle.tv_bits.proofs.NonzeroLaws.{nonzero_sound, nonzero_complete, nonzero_sizes}
use Rattle.tv_bits.specs.Nonzero.{nonzero_of, nonzero_flag, nonzero_values}
use Rattle.tv_muldiv.specs.Product.{product_bits_of, product_of, ProductIsSound, ProductIsComplete, ProductSizes}
use Rattle.tv_muldiv.specs.Weighed.{halves_values}
use Rattle.tv_bits.proofs.BitLaws.{product_bit}
use Rattle.tv_bits.specs.Zero.{zero_cases_of}

-- ---- numbers
-- a number below P, and one below 2 P that is the same modulo P and as odd, are one
exact : (w : ℕ) → IsWidth w → (m n : ℕ) → m < P → n < 2 ^ (2 * w) → m % P ≡ n % P → m % 2 ≡ n % 2 → m ≡ n
exact w width m n small long same parity = grind arith

product_most : (w : ℕ) → IsWidth w → (a b : ℕ) → a < 2 ^ w → b < 2 ^ w → a * b ≤ (2 ^ w - 1) * (2 ^ w - 1)
product_most w width a b h k = mul-le a b (2 ^ w - 1) (2 ^ w - 1) (omega arith) (omega arith)

pub product_small : (w : ℕ) → IsWidth w → (a b : ℕ) → a < 2 ^ w → b < 2 ^ w → (a * b < P) × (a * b < 2 ^ (2 * w))
product_small w width a b h k = let most = product_most w width a b h k in (grind arith, grind arith)

-- the lowest bit of a product is the product of the lowest bits
first_of_product : (a b : ℕ) → bit_at (a * b) 0 ≡ bit_at a 0 * bit_at b 0
first_of_product a b = search (arith, product_bit, bit_at_lowest, mul-mod, mod-eq_of_lt)

odd : (m n p w : ℕ) → bit_at m 0 ≡ p → IsBit p → p % P ≡ w → w ≡ bit_at n 0 → m % 2 ≡ n % 2
odd m n p w lowest small whole same = sym (bit_at_lowest m) ∙ lowest ∙ sym (mod-eq_of_lt (let below : p < P = omega arith in below)) ∙ whole ∙ same
    ∙ bit_at_lowest n

-- ---- the bits of the product
module _ (z : List ℕ) (assigns : Assigns z) where
  -- the lowest bit's wire
  lowest : {n v : ℕ} (first : ℕ) → 0 < n → HasBits z first n v → value (wire first) z ≡ bit_at v 0
  lowest first some s = value-wire assigns first ∙ ap (λ k. slice_index z k) (sym (add-zero first)) ∙ HasBits-bit_at s 0 some

  module _ (w : ℕ) (width : IsWidth w) (next : ℕ) (x y : Bits) (a b : ℕ) (p : HasBits z x.first w a) (q : HasBits z y.first w b) where
    bits_of_product : IsBit (slice_index z next) → ((i : ℕ) → i < 2 * w - 1 → IsBit (slice_index z (next + 1 + i))) → (i : ℕ) → i < 2 * w
        → IsBit (slice_index z (next + i))
    bits_of_product first rest i h = elim (cases_eq i 0) [
      | inl none ↦ let same : next ≡ next + i = omega arith in subst (λ k. IsBit (slice_index z k)) same first
      | inr some ↦ let same : next + 1 + (i - 1) ≡ next + i = omega arith in subst (λ k. IsBit (slice_index z k)) same (rest (i - 1) (omega arith))
    ]

    product_bits_sound : Meets z (product_bits_of w x y next).list → HasBits z next (2 * w) (a * b)
    unfolding product_bits_of new_bits_of fresh here put pure ◌>>=◌
    product_bits_sound meets =
        let short = width_short w width in
        let some : 0 < w = grind arith in
        let both = Meets-split z (new_bits_of (2 * w - 1) (next + 1)).list _ meets in
        let first : bit_at a 0 * bit_at b 0 % P ≡ slice_index z next =
        sym (ap₂ (λ m n. m * n % P) (lowest x.first (omega arith) p) (lowest y.first (omega arith) q)) ∙ both.1.0 ∙ value-wire assigns next in
        let small = product_bit (bit_at a 0) (bit_at b 0) (bit_at-lt a 0) (bit_at-lt b 0) in
        let rest = (bits_are z (2 * w - 1) (next + 1) assigns both.0).bits in
        let s : HasBits z next (2 * w) (binary_value z next (2 * w)) = record { bits = bits_of_product (omega arith) rest; number = refl } in
        let whole : a * b % P ≡ binary_value z next (2 * w) % P =
        sym (ap₂ (λ m n. m * n % P) (value-bits_below p (omega arith)) (value-bits_below q (omega arith))) ∙ both.1.1.0 ∙ value-bits s in
        let parity : a * b % 2 ≡ binary_value z next (2 * w) % 2 =
        odd (a * b) (binary_value z next (2 * w)) (bit_at a 0 * bit_at b 0) (slice_index z next) (first_of_product a b) small first
        (sym (value-wire assigns next) ∙ lowest next (omega arith) s) in
        let same : binary_value z next (2 * w) ≡ a * b = sym
        (exact w width (a * b) (binary_value z next (2 * w)) (product_small w width a b (HasBits-below p) (HasBits-below q)).0
        (HasBits-below s) whole parity) in
        subst (λ v. HasBits z next (2 * w) v) same s

    product_bits_complete : HasBits z next (2 * w) (a * b) → Meets z (product_bits_of w x y next).list
    unfolding product_bits_of new_bits_of fresh here put pure ◌>>=◌
    product_bits_complete s =
        let short = width_short w width in
        let some : 0 < w = grind arith in
        let rest : (i : ℕ) → i < 2 * w - 1 → IsBit (slice_index z (next + 1 + i)) =
        λ i h. let same : next + (1 + i) ≡ next + 1 + i = omega arith in subst (λ k. IsBit (slice_index z k)) same (s.bits (1 + i) (omega arith)) in
        let small = product_bit (bit_at a 0) (bit_at b 0) (bit_at-lt a 0) (bit_at-lt b 0) in
        let first : bit_at a 0 * bit_at b 0 % P ≡ bit_at (a * b) 0 = omega (arith, first_of_product a b) in
        Meets-join z (new_bits_of (2 * w - 1) (next + 1)).list _ (bits_met z (2 * w - 1) (next + 1) assigns rest) (
          ap₂ (λ m n. m * n % P) (lowest x.first (omega arith) p) (lowest y.first (omega arith) q) ∙ first ∙ sym (lowest next (omega arith) s),
          (ap₂ (λ m n. m * n % P) (value-bits_below p (omega arith)) (value-bits_below q (omega arith)) ∙ sym (value-bits s), tt),
        )

product_bits_answer : (w : ℕ) (x y : Bits) (next : ℕ) → (product_bits_of w x y next).answer ≡ next
unfolding product_bits_of fresh put pure ◌>>=◌
product_bits_answer w x y next = refl

product_bits_next : (w : ℕ) → IsWidth w → (x y : Bits) (next : ℕ) → (product_bits_of w x y next).next ≡ next + 2 * w
unfolding product_bits_of fresh put pure ◌>>=◌
product_bits_next w width x y next = new_bits_next (2 * w - 1) (next + 1) ∙ grind arith

-- ---- the product
pub product_answer : (w : ℕ) → IsWidth w → (x y : Bits) (next : ℕ)
    → (product_of w x y next).answer ≡ record { low = record { first = next; n = w }; high = record { first = next + w; n = w }; over = next + 2 * w }
unfolding product_of nonzero_of zero_cases_of fresh put pure ◌>>=◌
product_answer w width x y next = rw (product_bits_answer, product_bits_next w width x y next) refl

pub product_next : (w : ℕ) → IsWidth w → (x y : Bits) (next : ℕ) → (product_of w x y next).next ≡ next + (2 * w + 2)
unfolding product_of nonzero_of zero_cases_of fresh put pure ◌>>=◌
product_next w width x y next = omega (arith, product_bits_next w width x y next)

-- the circuit in two parts
product_parts : (w : ℕ) → IsWidth w → (z : List ℕ) (x y : Bits) (next : ℕ) → Meets z (product_of w x y next).list
    → Meets z (product_bits_of w x y next).list × Meets z (nonzero_of (bits_combination (next + w) w) (next + 2 * w)).list
unfolding product_of pure ◌>>=◌
product_parts w width z x y next meets =
    let both = rw (product_bits_answer, product_bits_next w width x y next) at (Meets-split z (product_bits_of w x y next).list _ meets) in
    (both.0, (Meets-split z (nonzero_of (bits_combination (next + w) w) (next + 2 * w)).list [] both.1).0)

product_whole : (w : ℕ) → IsWidth w → (z : List ℕ) (x y : Bits) (next : ℕ) → Meets z (product_bits_of w x y next).list
    → Meets z (nonzero_of (bits_combination (next + w) w) (next + 2 * w)).list
    → Meets z (product_of w x y next).list
unfolding product_of pure ◌>>=◌
product_whole w width z x y next p q = search (arith, Meets-join, product_bits_answer, product_bits_next)

pub product_sound : ProductIsSound
product_sound w width z next x y a b assigns p q meets =
    let short = width_short w width in
    let both = product_parts w width z x y next meets in
    let s = product_bits_sound z assigns w width next x y a b p q both.0 in
    let two = subst (λ n. HasBits z next n (a * b)) (let same : 2 * w ≡ w + w = omega arith in same) s in
    let high = HasBits-high z next w w (a * b) two in
    rw (product_answer w width x y next) (record {
      low = HasBits-low z next w w (a * b) two;
      high = high;
      over = rw nonzero_sizes.answer at (nonzero_sound z (next + 2 * w) (bits_combination (next + w) w) assigns both.1)
          ∙ ap nonzero_flag (value-bits_below high (omega arith));
    })

pub product_complete : ProductIsComplete
product_complete w width z next x y a b assigns p q has =
    let short = width_short w width in
    let both = rw length-halves at (HasFrom-split z next (halves_values w (a * b)) (nonzero_values (a * b / 2 ^ w)) has) in
    let s = halves_are w width z next (a * b) (product_small w width a b (HasBits-below p) (HasBits-below q)).1 both.0 in
    let two = subst (λ n. HasBits z next n (a * b)) (let same : 2 * w ≡ w + w = omega arith in same) s in
    let high = value-bits_below (HasBits-high z next w w (a * b) two) (omega arith) in
    product_whole w width z x y next (product_bits_complete z assigns w width next x y a b p q s)
    (nonzero_complete z (next + 2 * w) (bits_combination (next + w) w) assigns (rw (← high) at both.1))

-- ---- how many values there are, and that they are numbers of the field
pub product_sizes : ProductSizes
product_sizes = record {
  answer = product_answer;
  end = product_next;
  fills = λ w width x y a b next. omega (
    arith,
    product_next w width x y next,
    length-append (halves_values w (a * b)) (nonzero_values (a * b / 2 ^ w)),
    length-halves w (a * b),
  );
  in_field = λ w a b. InField-append (halves_values w (a * b)) (nonzero_values (a * b / 2 ^ w)) (halves_in_field w (a * b))
      (nonzero_sizes.in_field (a * b / 2 ^ w));
}
