-- The laws of the shift, from those of its parts.
use Rattle.tv_core.proofs.Common.{◌≡◌, ℕ, ◌+◌, ◌-◌, ◌*◌, ◌/◌, ◌%◌, ◌^◌, ◌<◌, List, [], ◌∷◌, ◌++◌, length, inl, inr, refl, sym, subst, ◌∙◌, ap, ap₂, arith}
use Rattle.tv_core.proofs.Common.{mod-lt, mod-eq_of_lt, cases_eq, bit_at, slice_index, length-each_below, value-less, value-wire, wire-below, Meets-split}
use Rattle.tv_core.proofs.Common.{Meets-join, HasFrom-split, here, fresh, put, pure, ◌>>=◌, wire, scaled, less, Combination, value, Assigns, Meets, HasFrom}
use Rattle.tv_core.proofs.Common.{IsWidth}
use Rattle.std.proofs.Common.{min}
use Rattle.std.proofs.Math.Nat.{div-le_self}
use Rattle.std.proofs.lemmas.Nat.{pow_pos}
use Rattle.std.proofs.lemmas.Nat.Bits.{bit_at-lt}
use Rattle.tv_bits.proofs.SelectLaws.{select_sound, select_complete}
use Rattle.tv_bits.proofs.BitNumbers.{HasBits-below, HasBits-bit_at, HasBits-low, HasBits-high, value-bits_below}
use Rattle.tv_bits.proofs.ZeroLaws.{zero_flag-zero, zero_flag-other, zero_sound, zero_complete, zero_next}
use Rattle.tv_bits.specs.Bit.{IsBit}
use Rattle.tv_bits.specs.Bits.{HasBits, bits_combination, bits_values}
use Rattle.tv_bits.specs.Select.{selected, select_of, pick_of}
use Rattle.tv_bits.specs.Zero.{zero_flag, zero_of, zero_values}
use Rattle.tv_core.proofs.CombinationLaws.{value-scaled}
use Rattle.tv_core.specs.declared.field.TheConstants.{P}
use Rattle.tv_shift.proofs.HalfLaws.{halves_sound, halves_complete, halves_next}
use Rattle.tv_shift.proofs.MaskLaws.{low_sound, high_sound, part_complete, masked_next}
use Rattle.tv_bits.proofs.TimesLaws.{times_sound, times_complete, ratio_sound, ratio_complete}
use Rattle.tv_shift.proofs.ShiftNumbers.{half_power, half_left-below, half_right-below, chosen_rest, other_is, left_whole, right_whole, right_of, of_right}
use Rattle.tv_shift.proofs.ShiftNumbers.{rest-left, distance_near, distance_far, power-small}
use Rattle.tv_word.proofs.ArithmeticLaws.{far_left, far_right}
use Rattle.tv_shift.proofs.ShiftSizes.{places_next, parts_next, half_next, rest_next, length-places, length-parts}
use Rattle.tv_shift.proofs.ThermometerLaws.{Marks, thermometer_sound, thermometer_complete, value-power}
use Rattle.tv_shift.specs.Halves.{chosen_half, other_half, halves_of}
use Rattle.tv_shift.specs.Masks.{masked_of, masked_value, masked_values, half_log, mask_at, mask_value, digit_at}
use Rattle.tv_bits.specs.Ratio.{ratio_of}
use Rattle.tv_bits.specs.Times.{times_of}
use Rattle.tv_shift.specs.Shift.{shifted_left, shifted_right, IsShifted, places_of, parts_of, by_half_of, by_rest_of, ends_of, shift_of, places_values}
use Rattle.tv_shift.specs.Shift.{parts_values, half_left, half_right, ends_values, ShiftIsSound, ShiftIsComplete}
use Rattle.tv_shift.specs.Thermometer.{mark, thermometer_of, thermometer_values, power_of}
use Rattle.tv_shift.specs.declared.ends.Shift.{Shift}
use Rattle.tv_shift.specs.declared.masks.Part.TheVariants.{Low, High}
use Rattle.tv_shift.specs.declared.masks.Parts.{Parts}
use Rattle.tv_shift.specs.declared.masks.Places.{Places}
use Rattle.tv_word.proofs.WidthLaws.{word_small}

-- what is known of places, and of parts, for a word v, a distance whose low bits represent s, and the bit b above them
record ArePlaces (w : ℕ) (z : List ℕ) (p : Places) (s b v : ℕ) : Type 0 where
  marks : Marks z p.distance p.products (half_log w) s
  chosen : HasBits z p.chosen (w / 2) (chosen_half (w / 2) b v)

record AreParts (w : ℕ) (z : List ℕ) (p : Parts) (s b v : ℕ) : Type 0 where
  marks : Marks z p.places.distance p.places.products (half_log w) s
  low : value (bits_combination p.low (w / 4)) z ≡ chosen_half (w / 2) b v % 2 ^ s
  high : value (bits_combination p.high (w / 4)) z + other_half (w / 2) b v % 2 ^ (w / 2 - s) ≡ other_half (w / 2) b v

module _ (w : ℕ) (width : IsWidth w) (z : List ℕ) (assigns : Assigns z) (x y v d : ℕ) (word : HasBits z x w v) (distance : HasBits z y w d) where
  -- the word in two halves
  word_halves : HasBits z x (w / 2 + w / 2) v
  word_halves = subst (λ n. HasBits z x n v) (let same : w ≡ w / 2 + w / 2 = omega arith in same) word

  s-small : d % 2 ^ half_log w < w / 2
  s-small = subst (λ n. d % 2 ^ half_log w < n) (half_power w width) (mod-lt d (pow_pos (half_log w)))

  b-bit : IsBit (bit_at d (half_log w))
  b-bit = bit_at-lt d (half_log w)

  b-is : slice_index z (y + half_log w) ≡ bit_at d (half_log w)
  b-is = HasBits-bit_at distance (half_log w) (omega arith)

  b-wire : IsBit (slice_index z (y + half_log w))
  b-wire = distance.bits (half_log w) (omega arith)

  left-below : half_left (w / 2) (bit_at d (half_log w)) v < 2 ^ w
  left-below = half_left-below w width (bit_at d (half_log w)) v b-bit (HasBits-below word)

  right-below : half_right (w / 2) (bit_at d (half_log w)) v < 2 ^ w
  right-below = half_right-below w width (bit_at d (half_log w)) v b-bit (HasBits-below word)

  -- ---- places
  places_sound : (next : ℕ) → Meets z (places_of w x y next).list → ArePlaces w z (places_of w x y next).answer (d % 2 ^ half_log w) (bit_at d (half_log w)) v
  unfolding places_of thermometer_of here pure ◌>>=◌
  places_sound next meets =
      let first = Meets-split z (halves_of (w / 2) (y + half_log w) x next).list _ meets in
      let second = Meets-split z (thermometer_of (half_log w) y (halves_of (w / 2) (y + half_log w) x next).next).list [] first.1 in
      record {
        marks = thermometer_sound z assigns y w d distance (halves_of (w / 2) (y + half_log w) x next).next (half_log w) (omega arith) second.0;
        chosen = rw b-is at (halves_sound z (w / 2) (y + half_log w) x assigns b-wire v word_halves next first.0);
      }

  places_complete : (next : ℕ) → HasFrom z next (places_values w v d) → Meets z (places_of w x y next).list
  unfolding places_of ◌>>=◌ pure
  places_complete next has =
      let two = HasFrom-split z next (bits_values (chosen_half (w / 2) (bit_at d (half_log w)) v) (w / 2)) (thermometer_values (half_log w) d) has in
      let rest = rw (length-each_below (w / 2) (bit_at (chosen_half (w / 2) (bit_at d (half_log w)) v))) at two.1 in
      let half = halves_complete z (w / 2) (y + half_log w) x assigns b-wire v word_halves next (rw b-is two.0) in
      let marks = thermometer_complete z assigns y w d distance (halves_of (w / 2) (y + half_log w) x next).next (half_log w) (omega arith)
      (rw (halves_next (w / 2) (y + half_log w) x next) rest) in
      Meets-join z (halves_of (w / 2) (y + half_log w) x next).list _ half
      (Meets-join z (thermometer_of (half_log w) y (halves_of (w / 2) (y + half_log w) x next).next).list [] marks tt)

  places_word : (next : ℕ) → (places_of w x y next).answer.word ≡ x
  unfolding places_of ◌>>=◌ pure
  places_word next = refl

  -- ---- parts
  word_at : (next : ℕ) → HasBits z (places_of w x y next).answer.word w v
  word_at next = subst (λ k. HasBits z k w v) (sym (places_word next)) word

  parts_sound : (next : ℕ) → Meets z (parts_of w x y next).list → AreParts w z (parts_of w x y next).answer (d % 2 ^ half_log w) (bit_at d (half_log w)) v
  unfolding parts_of masked_of here pure ◌>>=◌
  parts_sound next meets =
      let p = (places_of w x y next).answer in
      let at = (places_of w x y next).next in
      let first = Meets-split z (places_of w x y next).list _ meets in
      let second = Meets-split z (masked_of (mask_at w p Low) (digit_at w p Low) (w / 4) at).list _ first.1 in
      let third = Meets-split z (masked_of (mask_at w p High) (digit_at w p High) (w / 4)
      (masked_of (mask_at w p Low) (digit_at w p Low) (w / 4) at).next).list [] second.1 in
      let known = places_sound next first.0 in
      record {
        marks = known.marks;
        low = low_sound w width z assigns p (d % 2 ^ half_log w) (bit_at d (half_log w)) v s-small b-bit known.marks (word_at next) known.chosen at second.0;
        high = high_sound w width z assigns p (d % 2 ^ half_log w) (bit_at d (half_log w)) v s-small b-bit known.marks (word_at next) known.chosen
            (masked_of (mask_at w p Low) (digit_at w p Low) (w / 4) at).next third.0;
      }

  parts_complete : (next : ℕ) → HasFrom z next (parts_values w v d) → Meets z (parts_of w x y next).list
  unfolding parts_of ◌>>=◌ pure
  parts_complete next has =
      let p = (places_of w x y next).answer in
      let at = (places_of w x y next).next in
      let s = d % 2 ^ half_log w in
      let b = bit_at d (half_log w) in
      let low_values = masked_values (mask_value w s Low) (chosen_half (w / 2) b v) (w / 4) in
      let high_values = masked_values (mask_value w s High) (other_half (w / 2) b v) (w / 4) in
      let two = HasFrom-split z next (places_values w v d) (low_values ++ high_values) has in
      let rest : HasFrom z at (low_values ++ high_values) = subst (λ k. HasFrom z k (low_values ++ high_values))
      (ap (λ n. next + n) (length-places w width v d) ∙ sym (places_next w width x y next)) two.1 in
      let halves = HasFrom-split z at low_values high_values rest in
      let met = places_complete next two.0 in
      let known = places_sound next met in
      let above : at + length low_values ≡ (masked_of (mask_at w p Low) (digit_at w p Low) (w / 4) at).next =
      ap (λ n. at + n) (length-each_below (w / 4) (masked_value (mask_value w s Low) (chosen_half (w / 2) b v) (w / 4)))
      ∙ sym (masked_next (mask_at w p Low) (digit_at w p Low) (w / 4) at) in
      let low = part_complete w width z assigns p s b v s-small b-bit known.marks (word_at next) known.chosen Low at halves.0 in
      let high = part_complete w width z assigns p s b v s-small b-bit known.marks (word_at next) known.chosen High _
      (subst (λ k. HasFrom z k high_values) above halves.1) in
      Meets-join z (places_of w x y next).list _ met
      (Meets-join z (masked_of (mask_at w p Low) (digit_at w p Low) (w / 4) at).list _ low
      (Meets-join z (masked_of (mask_at w p High) (digit_at w p High) (w / 4)
      (masked_of (mask_at w p Low) (digit_at w p Low) (w / 4) at).next).list [] high tt))

  -- ---- by half a word
  half_whole : 2 ^ (w / 2) % P ≡ 2 ^ (w / 2)
  half_whole = grind arith

  half_up : (n : ℕ) → 2 ^ (w / 2) % P * (n % 2 ^ (w / 2)) % P ≡ 2 ^ (w / 2) * (n % 2 ^ (w / 2))
  half_up n = grind arith

  low_value : value (scaled (2 ^ (w / 2) % P) (bits_combination x (w / 2))) z ≡ 2 ^ (w / 2) * (v % 2 ^ (w / 2))
  low_value = value-scaled (2 ^ (w / 2) % P) (bits_combination x (w / 2)) z
      ∙ ap (λ n. 2 ^ (w / 2) % P * n % P) (value-bits_below (HasBits-low z x (w / 2) (w / 2) v word_halves) (omega arith)) ∙ half_up v

  high_value : value (bits_combination (x + w / 2) (w / 2)) z ≡ v / 2 ^ (w / 2)
  high_value = value-bits_below (HasBits-high z x (w / 2) (w / 2) v word_halves) (omega arith)

  word_value : value (bits_combination x w) z ≡ v
  word_value = value-bits_below word (omega arith)

  left_chosen : selected (slice_index z (y + half_log w)) (value (scaled (2 ^ (w / 2) % P) (bits_combination x (w / 2))) z) (value (bits_combination x w) z)
      ≡ half_left (w / 2) (bit_at d (half_log w)) v
  left_chosen = ap₂ (λ m n. selected (slice_index z (y + half_log w)) m n) low_value word_value ∙ ap (λ b. selected b (2 ^ (w / 2) * (v % 2 ^ (w / 2))) v) b-is

  right_chosen : selected (slice_index z (y + half_log w)) (value (bits_combination (x + w / 2) (w / 2)) z) (value (bits_combination x w) z)
      ≡ half_right (w / 2) (bit_at d (half_log w)) v
  right_chosen = ap₂ (λ m n. selected (slice_index z (y + half_log w)) m n) high_value word_value ∙ ap (λ b. selected b (v / 2 ^ (w / 2)) v) b-is

  half_sound : (at : ℕ) → Meets z (by_half_of w (y + half_log w) x at).list
      → (slice_index z (by_half_of w (y + half_log w) x at).answer.left ≡ half_left (w / 2) (bit_at d (half_log w)) v)
      × (slice_index z (by_half_of w (y + half_log w) x at).answer.right ≡ half_right (w / 2) (bit_at d (half_log w)) v)
  unfolding by_half_of ◌>>=◌ pure
  half_sound at meets =
      let left = select_of (y + half_log w) (scaled (2 ^ (w / 2) % P) (bits_combination x (w / 2))) (bits_combination x w) at in
      let first = Meets-split z left.list _ meets in
      let second = Meets-split z (select_of (y + half_log w) (bits_combination (x + w / 2) (w / 2)) (bits_combination x w) left.next).list [] first.1 in (
        select_sound z at (y + half_log w) (scaled (2 ^ (w / 2) % P) (bits_combination x (w / 2))) (bits_combination x w) assigns b-wire first.0 ∙ left_chosen,
        select_sound z left.next (y + half_log w) (bits_combination (x + w / 2) (w / 2)) (bits_combination x w) assigns b-wire second.0 ∙ right_chosen,
      )

  half_complete : (at : ℕ) → slice_index z at ≡ half_left (w / 2) (bit_at d (half_log w)) v
      → slice_index z (at + 1) ≡ half_right (w / 2) (bit_at d (half_log w)) v → Meets z (by_half_of w (y + half_log w) x at).list
  unfolding by_half_of pick_of fresh put ◌>>=◌ pure
  half_complete at l r = search (arith, Meets-join, select_complete, b-wire, left_chosen, right_chosen)

  -- ---- by the rest of the distance
  module _ (p : Parts) (half : Shift) (known : AreParts w z p (d % 2 ^ half_log w) (bit_at d (half_log w)) v)
      (left_is : slice_index z half.left ≡ half_left (w / 2) (bit_at d (half_log w)) v)
      (right_is : slice_index z half.right ≡ half_right (w / 2) (bit_at d (half_log w)) v) where
    power : Combination
    power = power_of (mark p.places.distance p.places.products (half_log w)) (w / 2 - 1)

    power_value : value power z ≡ 2 ^ (d % 2 ^ half_log w)
    unfolding power
    power_value =
        let least : min (w / 2 - 1) (d % 2 ^ half_log w) ≡ d % 2 ^ half_log w = omega (arith, s-small) in
        value-power z assigns 0 (mark p.places.distance p.places.products (half_log w)) (d % 2 ^ half_log w) (w / 2 - 1)
        (λ i h. known.marks i (omega (arith, half_power w width)))
        ∙ ap (λ n. 2 ^ n % P) least ∙ mod-eq_of_lt (omega (arith, power-small w width (d % 2 ^ half_log w) s-small))

    left_value : value (less (wire half.left) (scaled (2 ^ (w / 2) % P) (bits_combination p.high (w / 4)))) z
        ≡ (half_left (w / 2) (bit_at d (half_log w)) v + (P - 2 ^ (w / 2) * value (bits_combination p.high (w / 4)) z % P)) % P
    left_value =
        value-less (wire half.left) (scaled (2 ^ (w / 2) % P) (bits_combination p.high (w / 4))) z
        ∙ ap₂ (λ a b. (a + (P - b)) % P) (value-wire assigns half.left ∙ left_is)
        (value-scaled (2 ^ (w / 2) % P) (bits_combination p.high (w / 4)) z ∙ ap (λ n. n * value (bits_combination p.high (w / 4)) z % P) half_whole)

    right_value : value (less (wire half.right) (bits_combination p.low (w / 4))) z
        ≡ (half_right (w / 2) (bit_at d (half_log w)) v + (P - value (bits_combination p.low (w / 4)) z)) % P
    right_value =
        value-less (wire half.right) (bits_combination p.low (w / 4)) z
        ∙ ap (λ a. (a + (P - value (bits_combination p.low (w / 4)) z)) % P) (value-wire assigns half.right ∙ right_is)

    high_is : value (bits_combination p.high (w / 4)) z + half_left (w / 2) (bit_at d (half_log w)) v / 2 ^ (w / 2) % 2 ^ (w / 2 - d % 2 ^ half_log w)
        ≡ half_left (w / 2) (bit_at d (half_log w)) v / 2 ^ (w / 2)
    high_is = subst (λ k. value (bits_combination p.high (w / 4)) z + k % 2 ^ (w / 2 - d % 2 ^ half_log w) ≡ k)
        (other_is w width (bit_at d (half_log w)) v b-bit (HasBits-below word)) known.high

    low_is : value (bits_combination p.low (w / 4)) z ≡ half_right (w / 2) (bit_at d (half_log w)) v % 2 ^ (d % 2 ^ half_log w)
    low_is = known.low ∙ chosen_rest w width (bit_at d (half_log w)) v b-bit (HasBits-below word) (d % 2 ^ half_log w) s-small

    left_product : value power z * value (less (wire half.left) (scaled (2 ^ (w / 2) % P) (bits_combination p.high (w / 4)))) z % P
        ≡ shifted_left w (half_left (w / 2) (bit_at d (half_log w)) v) (d % 2 ^ half_log w)
    left_product = search (arith, power_value, left_value, rest-left, s-small, left-below, high_is)

    rest_sound : (at : ℕ) → Meets z (by_rest_of w p half at).list
        → (slice_index z (by_rest_of w p half at).answer.left ≡ shifted_left w (half_left (w / 2) (bit_at d (half_log w)) v) (d % 2 ^ half_log w))
        × (slice_index z (by_rest_of w p half at).answer.right ≡ shifted_right (half_right (w / 2) (bit_at d (half_log w)) v) (d % 2 ^ half_log w))
    unfolding by_rest_of ◌>>=◌ pure power
    rest_sound at meets =
        let left = times_of power (less (wire half.left) (scaled (2 ^ (w / 2) % P) (bits_combination p.high (w / 4)))) at in
        let right = ratio_of power (less (wire half.right) (bits_combination p.low (w / 4))) left.next in
        let first = Meets-split z left.list _ meets in
        let second = Meets-split z right.list [] first.1 in
        let divided = ap (λ n. n * slice_index z right.answer % P) (sym power_value)
        ∙ ratio_sound z left.next power (less (wire half.right) (bits_combination p.low (w / 4))) assigns second.0 ∙ right_value in (
          times_sound z at power (less (wire half.left) (scaled (2 ^ (w / 2) % P) (bits_combination p.high (w / 4)))) assigns first.0 ∙ left_product,
          right_of w width (d % 2 ^ half_log w) s-small (half_right (w / 2) (bit_at d (half_log w)) v) (value (bits_combination p.low (w / 4)) z)
              (word_small w width _ right-below) low_is (slice_index z right.answer) (wire-below assigns right.answer) divided,
        )

    rest_complete : (at : ℕ) → slice_index z at ≡ shifted_left w (half_left (w / 2) (bit_at d (half_log w)) v) (d % 2 ^ half_log w)
        → slice_index z (at + 1) ≡ shifted_right (half_right (w / 2) (bit_at d (half_log w)) v) (d % 2 ^ half_log w) → Meets z (by_rest_of w p half at).list
    unfolding by_rest_of times_of fresh put ◌>>=◌ pure power
    rest_complete at l r =
        let left = times_of power (less (wire half.left) (scaled (2 ^ (w / 2) % P) (bits_combination p.high (w / 4)))) at in
        let right = ratio_of power (less (wire half.right) (bits_combination p.low (w / 4))) left.next in
        Meets-join z left.list _ (times_complete z at power (less (wire half.left) (scaled (2 ^ (w / 2) % P) (bits_combination p.high (w / 4)))) assigns
        (l ∙ sym left_product, tt))
        (Meets-join z right.list [] (ratio_complete z (at + 1) power (less (wire half.right) (bits_combination p.low (w / 4))) (slice_index z (at + 1)) assigns
        (ap (λ n. n * slice_index z (at + 1) % P) power_value
        ∙ of_right w width (d % 2 ^ half_log w) s-small (half_right (w / 2) (bit_at d (half_log w)) v) (value (bits_combination p.low (w / 4)) z)
        (word_small w width _ right-below) low_is (slice_index z (at + 1)) r ∙ sym right_value) (refl, tt)) tt)

  -- ---- 0 from a word's width on
  one_times : (n : ℕ) → n < P → 1 * n % P ≡ n
  one_times n h = omega arith

  zero_times : (n : ℕ) → 0 * n % P ≡ 0
  zero_times n = omega arith

  far_value : value (bits_combination (y + (half_log w + 1)) (w - (half_log w + 1))) z ≡ d / 2 ^ (half_log w + 1)
  far_value = value-bits_below (HasBits-high z y (half_log w + 1) (w - (half_log w + 1)) d apart) (omega arith)
    where
      apart : HasBits z y (half_log w + 1 + (w - (half_log w + 1))) d
      apart = subst (λ n. HasBits z y n d) (let same : w ≡ half_log w + 1 + (w - (half_log w + 1)) = omega arith in same) distance

  left_gated : zero_flag (d / 2 ^ (half_log w + 1)) * shifted_left w (half_left (w / 2) (bit_at d (half_log w)) v) (d % 2 ^ half_log w) % P ≡ shifted_left w v d
  left_gated = elim (cases_eq (d / 2 ^ (half_log w + 1)) 0) [
    | inl near ↦
        let small = mod-lt (half_left (w / 2) (bit_at d (half_log w)) v * 2 ^ (d % 2 ^ half_log w)) (pow_pos w) in
        let number = word_small w width _ small in
        ap (λ f. f * shifted_left w (half_left (w / 2) (bit_at d (half_log w)) v) (d % 2 ^ half_log w) % P) (zero_flag-zero (d / 2 ^ (half_log w + 1)) near)
        ∙ one_times (shifted_left w (half_left (w / 2) (bit_at d (half_log w)) v) (d % 2 ^ half_log w)) (omega arith)
        ∙ left_whole w width (bit_at d (half_log w)) v b-bit (HasBits-below word) (d % 2 ^ half_log w) s-small
        ∙ ap (λ n. v * 2 ^ n % 2 ^ w) (distance_near w width d (HasBits-below distance) near)
    | inr far ↦
        ap (λ f. f * shifted_left w (half_left (w / 2) (bit_at d (half_log w)) v) (d % 2 ^ half_log w) % P) (zero_flag-other (d / 2 ^ (half_log w + 1)) far)
        ∙ zero_times (shifted_left w (half_left (w / 2) (bit_at d (half_log w)) v) (d % 2 ^ half_log w))
        ∙ sym (far_left w v d (distance_far w width d far))
  ]

  right_gated : zero_flag (d / 2 ^ (half_log w + 1)) * shifted_right (half_right (w / 2) (bit_at d (half_log w)) v) (d % 2 ^ half_log w) % P ≡ shifted_right v d
  right_gated = elim (cases_eq (d / 2 ^ (half_log w + 1)) 0) [
    | inl near ↦
        let small = div-le_self (half_right (w / 2) (bit_at d (half_log w)) v) (2 ^ (d % 2 ^ half_log w)) in
        let less = word_small w width _ right-below in
        ap (λ f. f * shifted_right (half_right (w / 2) (bit_at d (half_log w)) v) (d % 2 ^ half_log w) % P) (zero_flag-zero (d / 2 ^ (half_log w + 1)) near)
        ∙ one_times (shifted_right (half_right (w / 2) (bit_at d (half_log w)) v) (d % 2 ^ half_log w)) (omega arith)
        ∙ right_whole w width (bit_at d (half_log w)) v b-bit (HasBits-below word) (d % 2 ^ half_log w)
        ∙ ap (λ n. v / 2 ^ n) (distance_near w width d (HasBits-below distance) near)
    | inr far ↦
        ap (λ f. f * shifted_right (half_right (w / 2) (bit_at d (half_log w)) v) (d % 2 ^ half_log w) % P) (zero_flag-other (d / 2 ^ (half_log w + 1)) far)
        ∙ zero_times (shifted_right (half_right (w / 2) (bit_at d (half_log w)) v) (d % 2 ^ half_log w))
        ∙ sym (far_right w v d (HasBits-below word) (distance_far w width d far))
  ]

  module _ (in_range : ℕ) (near : Shift) (in_range_is : slice_index z in_range ≡ zero_flag (d / 2 ^ (half_log w + 1)))
      (left_is : slice_index z near.left ≡ shifted_left w (half_left (w / 2) (bit_at d (half_log w)) v) (d % 2 ^ half_log w))
      (right_is : slice_index z near.right ≡ shifted_right (half_right (w / 2) (bit_at d (half_log w)) v) (d % 2 ^ half_log w)) where
    gate_left : value (wire in_range) z * value (wire near.left) z % P ≡ shifted_left w v d
    gate_left = ap₂ (λ a b. a * b % P) (value-wire assigns in_range ∙ in_range_is) (value-wire assigns near.left ∙ left_is) ∙ left_gated

    gate_right : value (wire in_range) z * value (wire near.right) z % P ≡ shifted_right v d
    gate_right = ap₂ (λ a b. a * b % P) (value-wire assigns in_range ∙ in_range_is) (value-wire assigns near.right ∙ right_is) ∙ right_gated

    ends_sound : (at : ℕ) → Meets z (ends_of in_range near at).list → IsShifted w z (ends_of in_range near at).answer v d
    unfolding ends_of ◌>>=◌ pure
    ends_sound at meets =
        let left = times_of (wire in_range) (wire near.left) at in
        let first = Meets-split z left.list _ meets in
        let second = Meets-split z (times_of (wire in_range) (wire near.right) left.next).list [] first.1 in
        record {
          left = times_sound z at (wire in_range) (wire near.left) assigns first.0 ∙ gate_left;
          right = times_sound z left.next (wire in_range) (wire near.right) assigns second.0 ∙ gate_right;
        }

    ends_complete : (at : ℕ) → slice_index z at ≡ shifted_left w v d → slice_index z (at + 1) ≡ shifted_right v d → Meets z (ends_of in_range near at).list
    unfolding ends_of times_of fresh put ◌>>=◌ pure
    ends_complete at l r = search (arith, Meets-join, times_complete, gate_left, gate_right)

-- ---- the whole
pub shift_sound : ShiftIsSound
unfolding shift_of ◌>>=◌
shift_sound w width z next x y v d assigns word distance meets =
    let parts = parts_of w x.first y.first next in
    let half = by_half_of w (y.first + half_log w) x.first parts.next in
    let near = by_rest_of w parts.answer half.answer half.next in
    let in_range = zero_of (bits_combination (y.first + (half_log w + 1)) (w - (half_log w + 1))) near.next in
    let first = Meets-split z parts.list _ meets in
    let second = Meets-split z half.list _ first.1 in
    let third = Meets-split z near.list _ second.1 in
    let fourth = Meets-split z in_range.list _ third.1 in
    let known = parts_sound w width z assigns x.first y.first v d word distance next first.0 in
    let halves = half_sound w width z assigns x.first y.first v d word distance parts.next second.0 in
    let rests = rest_sound w width z assigns x.first y.first v d word distance parts.answer half.answer known halves.0 halves.1 half.next third.0 in
    let flag = zero_sound z near.next (bits_combination (y.first + (half_log w + 1)) (w - (half_log w + 1))) assigns fourth.0
    ∙ ap zero_flag (far_value w width z assigns x.first y.first v d word distance) in
    ends_sound w width z assigns x.first y.first v d word distance in_range.answer near.answer flag rests.0 rests.1 in_range.next fourth.1

pub shift_complete : ShiftIsComplete
unfolding shift_of ◌>>=◌
shift_complete w width z next x y v d assigns word distance has =
    let parts = parts_of w x.first y.first next in
    let half = by_half_of w (y.first + half_log w) x.first parts.next in
    let near = by_rest_of w parts.answer half.answer half.next in
    let in_range = zero_of (bits_combination (y.first + (half_log w + 1)) (w - (half_log w + 1))) near.next in
    let far = zero_values (d / 2 ^ (half_log w + 1)) in
    let last = shifted_left w v d ∷ shifted_right v d ∷ [] in
    let two = HasFrom-split z next (parts_values w v d) (ends_values w v d ++ (far ++ last)) has in
    let at : next + length (parts_values w v d) ≡ parts.next = ap (λ n. next + n) (length-parts w width v d) ∙ sym (parts_next w width x.first y.first next) in
    let rest : HasFrom z parts.next (ends_values w v d ++ (far ++ last)) = subst (λ k. HasFrom z k (ends_values w v d ++ (far ++ last))) at two.1 in
    let half_at : half.next ≡ parts.next + 1 + 1 = half_next w (y.first + half_log w) x.first parts.next in
    let near_at : near.next ≡ parts.next + 1 + 1 + 1 + 1 = rest_next w parts.answer half.answer half.next ∙ ap (λ n. n + 1 + 1) half_at in
    let in_range_at : in_range.next ≡ parts.next + 1 + 1 + 1 + 1 + 1 + 1 = zero_next
    (bits_combination (y.first + (half_log w + 1)) (w - (half_log w + 1))) near.next ∙ ap (λ n. n + 2) near_at ∙ omega arith in
    let first = parts_complete w width z assigns x.first y.first v d word distance next two.0 in
    let known = parts_sound w width z assigns x.first y.first v d word distance next first in
    let second = half_complete w width z assigns x.first y.first v d word distance parts.next rest.0 rest.1.0 in
    let halves = half_sound w width z assigns x.first y.first v d word distance parts.next second in
    let third = rest_complete w width z assigns x.first y.first v d word distance parts.answer half.answer known halves.0 halves.1 half.next
    (ap (λ k. slice_index z k) half_at ∙ rest.1.1.0) (ap (λ k. slice_index z (k + 1)) half_at ∙ rest.1.1.1.0) in
    let rests = rest_sound w width z assigns x.first y.first v d word distance parts.answer half.answer known halves.0 halves.1 half.next third in
    let number = far_value w width z assigns x.first y.first v d word distance in
    let flags : HasFrom z near.next (zero_values (value (bits_combination (y.first + (half_log w + 1)) (w - (half_log w + 1))) z)) = rw (near_at, number)
    (rest.1.1.1.1.0, (rest.1.1.1.1.1.0, tt)) in
    let fourth = zero_complete z near.next (bits_combination (y.first + (half_log w + 1)) (w - (half_log w + 1))) assigns flags in
    let flag = zero_sound z near.next (bits_combination (y.first + (half_log w + 1)) (w - (half_log w + 1))) assigns fourth ∙ ap zero_flag number in
    let fifth = ends_complete w width z assigns x.first y.first v d word distance in_range.answer near.answer flag rests.0 rests.1 in_range.next
    (ap (λ k. slice_index z k) in_range_at ∙ rest.1.1.1.1.1.1.0) (ap (λ k. slice_index z (k + 1)) in_range_at ∙ rest.1.1.1.1.1.1.1.0) in
    Meets-join z parts.list _ first (Meets-join z half.list _ second (Meets-join z near.list _ third (Meets-join z in_range.list _ fourth fifth)))
