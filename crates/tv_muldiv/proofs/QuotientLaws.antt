-- The laws of the quotient.
use Rattle.tv_core.proofs.Common.{◌≡◌, ℕ, ◌+◌, ◌-◌, ◌*◌, ◌/◌, ◌%◌, ◌^◌, ◌<◌, List, [], ◌∷◌, ◌++◌, length, inl, inr, refl, sym, subst, ◌∙◌, ap₂, arith}
use Rattle.tv_core.proofs.Common.{slice_index, bit_at, cases_lt, nat_tests, length-each_below, value-append, value-less, value-wire, InField-cons, Meets-split}
use Rattle.tv_core.proofs.Common.{Meets-join, HasFrom-split, each_below, here, fresh, put, pure, ◌>>=◌, wire, constant, scaled, less, value, Assigns, Meets}
use Rattle.tv_core.proofs.Common.{HasFrom, InField, width_short, IsWidth}
use Rattle.std.proofs.Common.{length-append}
use Rattle.tv_core.proofs.CombinationLaws.{value-scaled, value-constant}
use Rattle.tv_core.proofs.FieldLaws.{InField-append}
use Rattle.tv_core.specs.declared.field.TheConstants.{P}
use Rattle.tv_bits.proofs.NewBitsLaws.{bits_are, bits_met}
use Rattle.tv_bits.proofs.PrefixLaws.{prefix_difference_sound, prefix_difference_complete, prefix_difference_next, products_in_field}
use Rattle.tv_bits.proofs.SizeLaws.{bits_in_field, zero_flag-below}
use Rattle.tv_bits.proofs.BitNumbers.{HasBits-below, HasBits-join, HasBits-from_values, value-bits_below}
use Rattle.tv_bits.proofs.BitsLaws.{new_bits_answer, new_bits_next}
use Rattle.tv_bits.specs.Bit.{IsBit}
use Rattle.tv_bits.specs.Times.{times_of}
use Rattle.tv_bits.specs.Bits.{HasBits, binary_value, bits_combination, new_bits_of}
use Rattle.tv_bits.specs.Order.{IsPrefixDifference}
use Rattle.tv_bits.specs.Prefixes.{prefix_difference_values}
use Rattle.tv_bits.specs.Zero.{zero_flag}
use Rattle.tv_bits.specs.declared.bit_wires.Bits.{Bits}
use Rattle.tv_word.specs.Operations.{udiv_result, umod_result}
use Rattle.tv_muldiv.proofs.QuotientNumbers.{Divides, Divides-sound, Divides-complete, quotient-small, remainder-small, above-below, above-difference}
use Rattle.tv_muldiv.specs.Quotient.{gate_in, above_in, words_values, above_values, quotient_at, quotient_wires_of}
use Rattle.tv_muldiv.specs.Quotient.{division_of, remainder_below_of, quotient_of, quotient_values, QuotientIsSound, QuotientIsComplete, QuotientSizes}
use Rattle.tv_muldiv.specs.declared.records.Quot.{Quot}

-- ---- where the parts end, and what they answer
quotient_wires_answer : (w : ℕ) (y : Bits) (next : ℕ) → (quotient_wires_of w y next).answer ≡ quotient_at w next
unfolding quotient_wires_of new_bits_of here put pure ◌>>=◌
quotient_wires_answer w y next = refl

quotient_wires_next : (w : ℕ) (y : Bits) (next : ℕ) → (quotient_wires_of w y next).next ≡ next + 2 * w + 1
unfolding quotient_wires_of put pure ◌>>=◌
quotient_wires_next w y next = omega (arith, new_bits_next (2 * w + 1) next)

division_next : (w : ℕ) (x y : Bits) (made : Quot) (next : ℕ) → (division_of w x y made next).next ≡ next + 1
unfolding division_of times_of fresh put pure ◌>>=◌
division_next w x y made next = refl

remainder_below_next : (w : ℕ) (y : Bits) (made : Quot) (next : ℕ) → (remainder_below_of w y made next).next ≡ next + (w / 4 + 2)
unfolding remainder_below_of ◌>>=◌
remainder_below_next w y made next = prefix_difference_next _ _ _ (w / 4) 4 (new_bits_of (w / 4) next).next ∙ omega (arith, new_bits_next (w / 4) next)

-- ---- the wires
module _ (w : ℕ) (width : IsWidth w) (z : List ℕ) (assigns : Assigns z) (y : Bits) (b : ℕ) (q : HasBits z y.first w b) (next : ℕ) where
  divisor : value (wire (next + 2 * w)) z * value (bits_combination y.first w) z % P ≡ slice_index z (next + 2 * w) * b % P
  divisor = let short = width_short w width in ap₂ (λ m n. m * n % P) (value-wire assigns (next + 2 * w)) (value-bits_below q (omega arith))

  quotient_wires_sound : Meets z (quotient_wires_of w y next).list
      → ((i : ℕ) → i < 2 * w + 1 → IsBit (slice_index z (next + i))) × (slice_index z (next + 2 * w) * b % P ≡ 0)
  unfolding quotient_wires_of new_bits_of here put pure ◌>>=◌
  quotient_wires_sound meets =
      let both = Meets-split z (new_bits_of (2 * w + 1) next).list _ meets in
      let all = bits_are z (2 * w + 1) next assigns both.0 in
      (all.bits, sym divisor ∙ both.1.0)

  quotient_wires_complete : (quot rem : ℕ) → HasBits z next w quot → HasBits z (next + w) w rem → IsBit (slice_index z (next + 2 * w))
      → slice_index z (next + 2 * w) * b % P ≡ 0 → Meets z (quotient_wires_of w y next).list
  unfolding quotient_wires_of new_bits_of here put pure ◌>>=◌
  quotient_wires_complete quot rem s t bit none =
      let words = HasBits-join z next w w quot rem s t in
      let each : (i : ℕ) → i < 2 * w + 1 → IsBit (slice_index z (next + i)) = λ i h. elim (cases_lt i (w + w)) [
        | inl below ↦ words.bits i below
        | inr last ↦ subst (λ k. IsBit (slice_index z k)) (let same : next + 2 * w ≡ next + i = omega arith in same) bit
      ] in
      Meets-join z (new_bits_of (2 * w + 1) next).list _ (bits_met z (2 * w + 1) next assigns each) (divisor ∙ none, tt)

-- ---- the division
module _ (w : ℕ) (width : IsWidth w) (z : List ℕ) (assigns : Assigns z) (x y : Bits) (a b quot rem : ℕ) (p : HasBits z x.first w a) (q : HasBits z y.first w b)
    (made : Quot)
    (s : HasBits z made.quot.first w quot) (t : HasBits z made.rem.first w rem) (next : ℕ) where
  gate_left : value (wire made.by_zero) z * value (bits_combination x.first w ++ scaled 1 (bits_combination made.quot.first w)) z % P
      ≡ slice_index z made.by_zero * ((a + quot) % P) % P
  gate_left = search (arith, width_short, HasBits-below, value-scaled, value-bits_below, value-wire, value-append)

  whole_left : value (bits_combination made.quot.first w) z * value (bits_combination y.first w) z % P ≡ quot * b % P
  whole_left = let short = width_short w width in ap₂ (λ m n. m * n % P) (value-bits_below s (omega arith)) (value-bits_below q (omega arith))

  whole_right : value (less (less (bits_combination x.first w) (bits_combination made.rem.first w)) (wire next)) z
      ≡ ((a + (P - rem)) % P + (P - slice_index z next)) % P
  whole_right =
      let short = width_short w width in
      value-less (less (bits_combination x.first w) (bits_combination made.rem.first w)) (wire next) z
      ∙ ap₂ (λ m n. (m + (P - n)) % P)
      (value-less (bits_combination x.first w) (bits_combination made.rem.first w) z
      ∙ ap₂ (λ m n. (m + (P - n)) % P) (value-bits_below p (omega arith)) (value-bits_below t (omega arith)))
      (value-wire assigns next)

  division_sound : Meets z (division_of w x y made next).list
      → (slice_index z made.by_zero * ((a + quot) % P) % P ≡ slice_index z next) × (quot * b % P ≡ ((a + (P - rem)) % P + (P - slice_index z next)) % P)
  unfolding division_of times_of fresh put pure ◌>>=◌
  division_sound meets = (sym gate_left ∙ meets.0 ∙ value-wire assigns next, sym whole_left ∙ meets.1.0 ∙ whole_right)

  division_complete : slice_index z made.by_zero * ((a + quot) % P) % P ≡ slice_index z next
      → quot * b % P ≡ ((a + (P - rem)) % P + (P - slice_index z next)) % P
      → Meets z (division_of w x y made next).list
  unfolding division_of times_of fresh put pure ◌>>=◌
  division_complete e f = (gate_left ∙ e ∙ sym (value-wire assigns next), (whole_left ∙ f ∙ sym whole_right, tt))

-- ---- the remainder below the divisor
module _ (w : ℕ) (width : IsWidth w) (z : List ℕ) (assigns : Assigns z) (y : Bits) (b rem : ℕ) (q : HasBits z y.first w b) (quot : Bits) (at flag : ℕ)
    (t : HasBits z at w rem) (next : ℕ) where
  value-above : (above : ℕ) → HasBits z next (w / 4) above
      → value (less (bits_combination next (w / 4) ++ constant 1) (wire flag)) z ≡ ((above + 1) % P + (P - slice_index z flag)) % P
  value-above above s =
      let short = width_short w width in
      let one : value (constant 1) z ≡ 1 = value-constant assigns 1 ∙ omega arith in
      value-less (bits_combination next (w / 4) ++ constant 1) (wire flag) z
      ∙ ap₂ (λ m n. (m + (P - n)) % P)
      (value-append (bits_combination next (w / 4)) (constant 1) z ∙ ap₂ (λ m n. (m + n) % P) (value-bits_below s (omega arith)) one)
      (value-wire assigns flag)

  remainder_below_sound : Meets z (remainder_below_of w y (record { quot = quot; rem = record { first = at; n = w }; by_zero = flag }) next).list
      → (above : ℕ) × (above < 2 ^ (w / 4)) × IsPrefixDifference (w / 4) 4 b rem (((above + 1) % P + (P - slice_index z flag)) % P)
  unfolding remainder_below_of ◌>>=◌
  remainder_below_sound meets =
      let short = width_short w width in
      let both = Meets-split z (new_bits_of (w / 4) next).list _ meets in
      let s = bits_are z (w / 4) next assigns both.0 in
      let rest = rw (new_bits_answer, new_bits_next) at both.1 in
      let found = prefix_difference_sound z (next + w / 4) (record { first = y.first; n = w }) (record { first = at; n = w })
      (less (bits_combination next (w / 4) ++ constant 1) (wire flag)) (w / 4) 4 b rem
      (omega arith) (omega arith) (omega arith) (omega arith) (omega arith) assigns q t rest in
      (binary_value z next (w / 4), HasBits-below s, rw (value-above (binary_value z next (w / 4)) s) at found)

  remainder_below_complete : (above d : ℕ) → HasBits z next (w / 4) above → d ≡ ((above + 1) % P + (P - slice_index z flag)) % P
      → IsPrefixDifference (w / 4) 4 b rem d
      → HasFrom z (next + w / 4) (prefix_difference_values b rem d (w / 4) 4)
      → Meets z (remainder_below_of w y (record { quot = quot; rem = record { first = at; n = w }; by_zero = flag }) next).list
  unfolding remainder_below_of ◌>>=◌
  remainder_below_complete above d s is i has =
      let short = width_short w width in
      let same : d ≡ value (less (bits_combination next (w / 4) ++ constant 1) (wire flag)) z = is ∙ sym (value-above above s) in
      let rest = prefix_difference_complete z (next + w / 4) (record { first = y.first; n = w }) (record { first = at; n = w })
      (less (bits_combination next (w / 4) ++ constant 1) (wire flag)) (w / 4) 4 b rem
      (omega arith) (omega arith) (omega arith) (omega arith) (omega arith) assigns q t (rw same at i) (rw same at has) in
      Meets-join z (new_bits_of (w / 4) next).list _ (bits_met z (w / 4) next assigns s.bits) (rw (new_bits_answer, new_bits_next) rest)

-- ---- the quotient
pub quotient_answer : (w : ℕ) (x y : Bits) (next : ℕ)
    → (quotient_of w x y next).answer ≡ record { quot = record { first = next; n = w }; rem = record { first = next + w; n = w }; by_zero = next + 2 * w }
unfolding quotient_of pure ◌>>=◌
quotient_answer w x y next = quotient_wires_answer w y next

pub quotient_next : (w : ℕ) (x y : Bits) (next : ℕ) → (quotient_of w x y next).next ≡ next + (2 * w + w / 4 + 4)
unfolding quotient_of pure ◌>>=◌
quotient_next w x y next = search (arith, remainder_below_next, division_next, quotient_wires_next)

quotient_parts : (w : ℕ) (z : List ℕ) (x y : Bits) (next : ℕ) → Meets z (quotient_of w x y next).list
    → Meets z (quotient_wires_of w y next).list × Meets z (division_of w x y (quotient_at w next) (next + 2 * w + 1)).list
    × Meets z (remainder_below_of w y (quotient_at w next) (next + 2 * w + 2)).list
unfolding quotient_of pure ◌>>=◌
quotient_parts w z x y next meets =
    let place : next + 2 * w + 1 + 1 ≡ next + 2 * w + 2 = omega arith in
    let first = Meets-split z (quotient_wires_of w y next).list _ meets in
    let second = Meets-split z (division_of w x y (quotient_at w next) (next + 2 * w + 1)).list _ (rw (quotient_wires_answer, quotient_wires_next)
    at first.1) in
    let third = Meets-split z (remainder_below_of w y (quotient_at w next) (next + 2 * w + 2)).list [] (rw (division_next, place) at second.1) in
    (first.0, second.0, third.0)

quotient_whole : (w : ℕ) (z : List ℕ) (x y : Bits) (next : ℕ) → Meets z (quotient_wires_of w y next).list
    → Meets z (division_of w x y (quotient_at w next) (next + 2 * w + 1)).list
    → Meets z (remainder_below_of w y (quotient_at w next) (next + 2 * w + 2)).list → Meets z (quotient_of w x y next).list
unfolding quotient_of pure ◌>>=◌
quotient_whole w z x y next p q r = search (arith, Meets-join, quotient_wires_answer, quotient_wires_next, division_next)

pub quotient_sound : QuotientIsSound
quotient_sound w width z next x y a b assigns p q meets =
    let all = quotient_parts w z x y next meets in
    let wires = quotient_wires_sound w width z assigns y b q next all.0 in
    let quot = binary_value z next w in
    let rem = binary_value z (next + w) w in
    let s : HasBits z next w quot = record { bits = λ i h. wires.0 i (omega arith); number = refl } in
    let t : HasBits z (next + w) w rem = record {
      bits = λ i h. let place : next + (w + i) ≡ next + w + i = omega arith in
          subst (λ k. IsBit (slice_index z k)) place (wires.0 (w + i) (omega arith));
      number = refl;
    } in
    let bit = wires.0 (2 * w) (omega arith) in
    let whole = division_sound w width z assigns x y a b quot rem p q (quotient_at w next) s t (next + 2 * w + 1) all.1 in
    let found = remainder_below_sound w width z assigns y b rem q (record { first = next; n = w }) (next + w) (next + 2 * w) t (next + 2 * w + 2) all.2 in
    let divides : Divides w a b quot rem (slice_index z (next + 2 * w))
    (slice_index z (next + 2 * w + 1)) found.0 = record { bit = bit; zero = wires.1; gated = whole.0; whole = whole.1; below = found.2 } in
    let divided = Divides-sound w width a b quot rem (slice_index z (next + 2 * w)) (slice_index z (next + 2 * w + 1)) found.0
    (HasBits-below p) (HasBits-below q) (HasBits-below s) (HasBits-below t) found.1 divides in
    rw quotient_answer (record {
      quot = subst (λ v. HasBits z next w v) divided.quot s;
      rem = subst (λ v. HasBits z (next + w) w v) divided.rem t;
      by_zero = divided.zero;
    })

length-words : (w a b : ℕ) → length (words_values w a b) ≡ 2 * w
length-words w a b = simp (length-append, length-each_below) (omega arith)

pub quotient_complete : QuotientIsComplete
quotient_complete w width z next x y a b assigns p q has =
    let a_small = HasBits-below p in
    let b_small = HasBits-below q in
    let above = above_in w a b in
    let above_place : next + 2 * w + 1 + 1 ≡ next + 2 * w + 2 = omega arith in
    let both = rw length-words at (HasFrom-split z next (words_values w a b) (zero_flag b ∷ gate_in a b ∷ above_values w a b) has) in
    let words = rw length-each_below at (HasFrom-split z next (each_below w (bit_at (udiv_result a b))) (each_below w (bit_at (umod_result a b))) both.0) in
    let gate : slice_index z (next + 2 * w + 1) ≡ gate_in a b = both.1.1.0 in
    let rest : HasFrom z (next + 2 * w + 2) (above_values w a b) = rw above_place at both.1.1.1 in
    let last = rw length-each_below at (HasFrom-split z (next + 2 * w + 2) (each_below (w / 4) (bit_at (above - 1)))
    (prefix_difference_values b (umod_result a b) above (w / 4) 4) rest) in
    let s = HasBits-from_values z next w (udiv_result a b) (quotient-small a b (2 ^ w) a_small) words.0 in
    let t = HasBits-from_values z (next + w) w (umod_result a b) (remainder-small a b (2 ^ w) b_small) words.1 in
    let bits = HasBits-from_values z (next + 2 * w + 2) (w / 4) (above - 1) (omega (arith, above-below w width a b b_small)) last.0 in
    let divides = Divides-complete w width a b a_small b_small in
    let flag : slice_index z (next + 2 * w) ≡ zero_flag b = both.1.0 in
    let difference = above-difference w width a b b_small in
    let wires = quotient_wires_complete w width z assigns y b q next (udiv_result a b) (umod_result a b) s t (rw flag divides.bit) (rw flag divides.zero) in
    let division = division_complete w width z assigns x y a b (udiv_result a b) (umod_result a b) p q (quotient_at w next) s t (next + 2 * w + 1)
    (rw (flag, gate) divides.gated) (rw gate divides.whole) in
    let below = remainder_below_complete w width z assigns y b (umod_result a b) q (record { first = next; n = w }) (next + w) (next + 2 * w) t
    (next + 2 * w + 2) (above - 1) above bits
    (rw flag (sym difference)) (rw difference at divides.below) last.1 in
    quotient_whole w z x y next wires division below

-- ---- how many values there are, and that they are numbers of the field
length-quotient_values : (w a b : ℕ) → length (quotient_values w a b) ≡ 2 * w + w / 4 + 4
length-quotient_values w a b = simp (length-append, length-each_below) (omega arith)

gate-small : (w : ℕ) → IsWidth w → (a b : ℕ) → a < 2 ^ w → gate_in a b < P
gate-small w width a b h = grind (arith, nat_tests)

quotient_in_field : (w : ℕ) → IsWidth w → (a b : ℕ) → a < 2 ^ w → InField (quotient_values w a b)
quotient_in_field w width a b h =
    search (arith, InField-append, InField-cons, bits_in_field, products_in_field, zero_flag-below, gate-small)

pub quotient_sizes : QuotientSizes
quotient_sizes = record {
  answer = quotient_answer;
  end = quotient_next;
  fills = λ w x y a b next. omega (arith, quotient_next w x y next, length-quotient_values w a b);
  in_field = quotient_in_field;
}
