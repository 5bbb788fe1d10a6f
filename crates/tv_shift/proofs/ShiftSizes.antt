-- Where a shift ends and what it answers; its values are as many as its wires, and in the field.
use Rattle.tv_core.proofs.Common.{◌≡◌, ℕ, zero, suc, ◌+◌, ◌-◌, ◌*◌, ◌/◌, ◌%◌, ◌^◌, ◌<◌, [], ◌∷◌, ◌++◌, length, ◌∙◌, ap, arith, mod-lt, bit_at}
use Rattle.tv_core.proofs.Common.{length-each_below, pure, ◌>>=◌, InField, InField-none, InField-cons, IsWidth}
use Rattle.std.proofs.Common.{length-append}
use Rattle.std.proofs.Math.Nat.{div-le_self}
use Rattle.std.proofs.lemmas.Nat.{pow_pos}
use Rattle.std.proofs.lemmas.Nat.Bits.{bit_at-lt}
use Rattle.tv_bits.proofs.BitLaws.{product_bit}
use Rattle.tv_bits.proofs.SelectLaws.{select_next}
use Rattle.tv_bits.proofs.SizeLaws.{bits_in_field, zero_in_field}
use Rattle.tv_bits.proofs.ZeroLaws.{zero_next}
use Rattle.tv_bits.specs.Bit.{IsBit}
use Rattle.tv_bits.specs.Bits.{bits_combination}
use Rattle.tv_bits.specs.Zero.{zero_of, zero_values}
use Rattle.tv_bits.specs.declared.bit_wires.Bits.{Bits}
use Rattle.tv_core.specs.Circuits.{Made}
use Rattle.tv_core.specs.Laws.{Fills}
use Rattle.tv_core.specs.declared.field.TheConstants.{P}
use Rattle.tv_core.proofs.FieldLaws.{InField-append, InField-each_below, word-below}
use Rattle.tv_shift.proofs.HalfLaws.{halves_next}
use Rattle.tv_shift.proofs.LevelValues.{values-none, values-more, length-values}
use Rattle.tv_shift.proofs.MaskLaws.{masked_next}
use Rattle.tv_bits.proofs.TimesLaws.{times_next, ratio_sizes, times_answer}
use Rattle.tv_shift.proofs.ShiftNumbers.{products_half, half_left-below, half_right-below}
use Rattle.tv_shift.proofs.ThermometerLaws.{below-bit, thermometer_next}
use Rattle.tv_shift.specs.Masks.{masked_value, half_log, mask_value}
use Rattle.tv_shift.specs.Shift.{places_of, parts_of, by_half_of, by_rest_of, ends_of, shift_of, places_made, parts_made, shift_made, shift_wires}
use Rattle.tv_shift.specs.Shift.{places_values, parts_values, ends_values, shifted_left, shifted_right, shift_values, ShiftSizes}
use Rattle.tv_shift.specs.Thermometer.{below, level_value, level_values, thermometer_values}
use Rattle.tv_shift.specs.declared.ends.Shift.{Shift}
use Rattle.tv_shift.specs.declared.masks.Part.{Part}
use Rattle.tv_shift.specs.declared.masks.Part.TheVariants.{Low, High}
use Rattle.tv_shift.specs.declared.masks.Parts.{Parts}

-- ---- where the circuits end
pub places_next : (w : ℕ) → IsWidth w → (x y next : ℕ) → (places_of w x y next).next ≡ next + places_made w
unfolding places_of pure ◌>>=◌
places_next w width x y next = search (arith, thermometer_next, halves_next, products_half)

pub parts_next : (w : ℕ) → IsWidth w → (x y next : ℕ) → (parts_of w x y next).next ≡ next + parts_made w
unfolding parts_of pure ◌>>=◌
parts_next w width x y next = search (arith, masked_next, places_next)

pub half_next : (w b x next : ℕ) → (by_half_of w b x next).next ≡ next + 1 + 1
unfolding by_half_of pure ◌>>=◌
half_next w b x next = select_next b _ _ _ ∙ ap (λ k. k + 1) (select_next b _ _ next)

pub rest_next : (w : ℕ) (parts : Parts) (half : Shift) (next : ℕ) → (by_rest_of w parts half next).next ≡ next + 1 + 1
unfolding by_rest_of pure ◌>>=◌
rest_next w parts half next = ratio_sizes.end _ _ _ ∙ ap (λ n. n + 1) (times_next _ _ next)

ends_next : (in_range : ℕ) (near : Shift) (next : ℕ) → (ends_of in_range near next).next ≡ next + 1 + 1
unfolding ends_of pure ◌>>=◌
ends_next in_range near next = times_next _ _ _ ∙ ap (λ n. n + 1) (times_next _ _ next)

-- where the last two wires begin
module _ (w : ℕ) (width : IsWidth w) (x y : Bits) (next : ℕ) where
  abbrev parts : Made Parts
  parts = parts_of w x.first y.first next

  abbrev half : Made Shift
  half = by_half_of w (y.first + half_log w) x.first parts.next

  abbrev near : Made Shift
  near = by_rest_of w parts.answer half.answer half.next

  last_from : (zero_of (bits_combination (y.first + (half_log w + 1)) (w - (half_log w + 1))) near.next).next ≡ next + (parts_made w + 6)
  last_from = search (arith, zero_next, rest_next, half_next, parts_next)

shift_next : (w : ℕ) → IsWidth w → (x y : Bits) (next : ℕ) → (shift_of w x y next).next ≡ next + shift_made w
unfolding shift_of ◌>>=◌
shift_next w width x y next = ends_next _ _ _ ∙ ap (λ n. n + 1 + 1) (last_from w width x y next) ∙ omega arith

shift_answer : (w : ℕ) → IsWidth w → (x y : Bits) (next : ℕ) → (shift_of w x y next).answer ≡ shift_wires w next
unfolding shift_of ends_of pure ◌>>=◌
shift_answer w width x y next = search (arith, times_answer, last_from, times_next)

-- ---- how many values
pub length-places : (w : ℕ) → IsWidth w → (v d : ℕ) → length (places_values w v d) ≡ places_made w
length-places w width v d = search (arith, length-append, length-each_below, length-values, products_half)

pub length-parts : (w : ℕ) → IsWidth w → (v d : ℕ) → length (parts_values w v d) ≡ parts_made w
length-parts w width v d = search (arith, length-append, length-places, length-each_below)

shift_fills : (w : ℕ) → IsWidth w → (x y : Bits) (v d : ℕ) → Fills (shift_of w x y) (shift_values w v d)
shift_fills w width x y v d next = search (arith, shift_next, length-append, length-parts)

-- ---- the values are below the prime
mask-bit : (w s : ℕ) (part : Part) (i : ℕ) → IsBit (mask_value w s part i)
mask-bit w s Low i = below-bit i s
mask-bit w s High i = below-bit (w / 2 - 1 - i) s

masked-below : (w : ℕ) → IsWidth w → (part : Part) (s u i : ℕ) → masked_value (mask_value w s part) u (w / 4) i < P
masked-below w width part s u i =
    pair (mask_value w s part i) (bit_at u i) (mask_value w s part (w / 4 + i)) (bit_at u (w / 4 + i)) (mask-bit w s part i) (bit_at-lt u i)
    (mask-bit w s part (w / 4 + i)) (bit_at-lt u (w / 4 + i))
  where
    small : (m n : ℕ) → IsBit m → IsBit n → m + 2 ^ (w / 4) * n < P
    small m n h k = grind arith

    pair : (a b c e : ℕ) → IsBit a → IsBit b → IsBit c → IsBit e → a * b + 2 ^ (w / 4) * (c * e) < P
    pair a b c e p q r t = small (a * b) (c * e) (product_bit a b p q) (product_bit c e r t)

levels-below : (k y : ℕ) → InField (thermometer_values k y)
levels-below zero y = rw values-none InField-none
levels-below (suc k) y =
    rw values-more
    (InField-append (thermometer_values k y) (level_values y k) (levels-below k y)
    (InField-each_below (level_value y k) (λ j.
    let bit = product_bit (bit_at y k) (below j (y % 2 ^ k)) (bit_at-lt y k) (below-bit j (y % 2 ^ k)) in omega arith) (2 ^ k - 1)))

parts-below : (w : ℕ) → IsWidth w → (v d : ℕ) → InField (parts_values w v d)
parts-below w width v d = search (arith, InField-append, bits_in_field, levels-below, InField-each_below, masked-below)

-- a word, and what is left of one
left-in_field : (w : ℕ) → IsWidth w → (x y : ℕ) → shifted_left w x y < P
left-in_field w width x y = word-below w width _ (mod-lt (x * 2 ^ y) (pow_pos w))

right-in_field : (w : ℕ) → IsWidth w → (x y : ℕ) → x < 2 ^ w → shifted_right x y < P
right-in_field w width x y h = let less = div-le_self x (2 ^ y) in word-below w width _ (omega arith)

ends-below : (w : ℕ) → IsWidth w → (v d : ℕ) → v < 2 ^ w → InField (ends_values w v d)
ends-below w width v d h =
    search (arith, half_left-below, bit_at-lt, half_right-below, InField-cons, word-below, left-in_field, right-in_field, InField-none)

shift_in_field : (w : ℕ) → IsWidth w → (v d : ℕ) → v < 2 ^ w → d < 2 ^ w → InField (shift_values w v d)
shift_in_field w width v d h k =
    let far = zero_values (d / 2 ^ (half_log w + 1)) in
    let last = shifted_left w v d ∷ shifted_right v d ∷ [] in
    let words : InField last = InField-cons (shifted_left w v d) (shifted_right v d ∷ []) (left-in_field w width v d)
    (InField-cons (shifted_right v d) [] (right-in_field w width v d h) InField-none) in
    InField-append (parts_values w v d) (ends_values w v d ++ (far ++ last)) (parts-below w width v d)
    (InField-append (ends_values w v d) (far ++ last) (ends-below w width v d h)
    (InField-append far last (zero_in_field (d / 2 ^ (half_log w + 1))) words))

pub shift_sizes : ShiftSizes
shift_sizes = record { answer = shift_answer; end = shift_next; fills = shift_fills; in_field = shift_in_field }
