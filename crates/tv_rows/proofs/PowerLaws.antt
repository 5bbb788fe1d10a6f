-- The laws of the power of a distance.
use Rattle.tv_core.proofs.Common.{◌≡◌, ℕ, ◌+◌, ◌*◌, ◌/◌, ◌%◌, ◌^◌, ◌<◌, ◌≤◌, List, [], ◌∷◌, length, refl, sym, ◌∙◌, ap, ap₂, arith, bit_at, slice_index}
use Rattle.tv_core.proofs.Common.{value-wire, InField-none, InField-cons, fresh, put, pure, ◌>>=◌, wire, value, Assigns, Meets, HasFrom, InField, terms_in}
use Rattle.tv_core.proofs.Common.{for_widths, IsWidth}
use Rattle.std.proofs.lemmas.Nat.Bits.{bit_at-lt}
use Rattle.tv_bits.proofs.BitLaws.{product_bit}
use Rattle.tv_bits.proofs.BitNumbers.{HasBits-bit_at}
use Rattle.tv_bits.specs.Bit.{IsBit}
use Rattle.tv_bits.specs.Bits.{HasBits}
use Rattle.tv_bits.specs.Times.{times_of}
use Rattle.tv_bits.specs.declared.bit_wires.Bits.{Bits}
use Rattle.tv_core.specs.declared.field.TheConstants.{P}
use Rattle.tv_rows.proofs.PowerNumbers.{both_is, middle_is, low_is, wide_is, power_small}
use Rattle.tv_rows.specs.Power.{factor_by, pair_power, low_power_of, wide_power_of, shift_power_of, shift_power_made, shift_power_wires, low_power_values}
use Rattle.tv_rows.specs.Power.{wide_power_values, shift_power_values, IsShiftPower, ShiftPowerIsSound, ShiftPowerIsComplete, ShiftPowerSizes, ShiftPowerCosts}
use Rattle.tv_rows.specs.declared.powers.ShiftPower.{ShiftPower}

module _ (z : List ℕ) (assigns : Assigns z) where
  -- ---- the combinations, of wires that hold bits
  value-factor_16 : (b n : ℕ) → slice_index z b ≡ n → IsBit n → value (factor_by 16 b) z ≡ 1 + 15 * n
  value-factor_16 b n e bit = omega (arith, assigns.one)

  value-factor_256 : (b n : ℕ) → slice_index z b ≡ n → IsBit n → value (factor_by 256 b) z ≡ 1 + 255 * n
  value-factor_256 b n e bit = omega (arith, assigns.one)

  value-factor_65536 : (b n : ℕ) → slice_index z b ≡ n → IsBit n → value (factor_by 65536 b) z ≡ 1 + 65535 * n
  value-factor_65536 b n e bit = omega (arith, assigns.one)

  value-pair : (a b c m n p : ℕ) → slice_index z a ≡ m → slice_index z b ≡ n → slice_index z c ≡ p → IsBit m → IsBit n → IsBit p
      → value (pair_power a b c) z ≡ 1 + m + 3 * n + 3 * p
  value-pair a b c m n p e f g h k l = omega (arith, assigns.one)

  module _ (y n d : ℕ) (s : HasBits z y n d) where
    first_bit : 1 ≤ n → slice_index z y ≡ bit_at d 0
    first_bit short = let place : y + 0 ≡ y = omega arith in ap (slice_index z) (sym place) ∙ HasBits-bit_at s 0 (omega arith)

    -- ---- what the factors of each constraint are
    both_value : 2 ≤ n → value (wire y) z * value (wire (y + 1)) z % P ≡ bit_at d 0 * bit_at d 1
    both_value short =
        ap₂ (λ m n. m * n % P) (value-wire assigns y ∙ first_bit (omega arith)) (value-wire assigns (y + 1) ∙ HasBits-bit_at s 1 (omega arith))
        ∙ both_is d

    middle_value : 4 ≤ n → value (factor_by 16 (y + 2)) z * value (factor_by 256 (y + 3)) z % P ≡ 2 ^ (4 * (d / 4 % 4))
    middle_value short =
        ap₂ (λ m n. m * n % P)
        (value-factor_16 (y + 2) (bit_at d 2) (HasBits-bit_at s 2 (omega arith)) (bit_at-lt d 2))
        (value-factor_256 (y + 3) (bit_at d 3) (HasBits-bit_at s 3 (omega arith)) (bit_at-lt d 3))
        ∙ middle_is d

    low_value : (both middle : ℕ) → 2 ≤ n → slice_index z both ≡ bit_at d 0 * bit_at d 1 → slice_index z middle ≡ 2 ^ (4 * (d / 4 % 4))
        → value (pair_power y (y + 1) both) z * value (wire middle) z % P ≡ 2 ^ (d % 16)
    low_value both middle short e f =
        let first = first_bit (omega arith) in
        let second = HasBits-bit_at s 1 (omega arith) in
        let product = product_bit (bit_at d 0) (bit_at d 1) (bit_at-lt d 0) (bit_at-lt d 1) in
        ap₂ (λ m n. m * n % P)
        (value-pair y (y + 1) both (bit_at d 0) (bit_at d 1) (bit_at d 0 * bit_at d 1) first second e (bit_at-lt d 0) (bit_at-lt d 1) product)
        (value-wire assigns middle ∙ f)
        ∙ low_is d

    wide_value : (low : ℕ) → 5 ≤ n → slice_index z low ≡ 2 ^ (d % 16) → value (wire low) z * value (factor_by 65536 (y + 4)) z % P ≡ 2 ^ (d % 32)
    wide_value low short e =
        ap₂ (λ m n. m * n % P) (value-wire assigns low ∙ e) (value-factor_65536 (y + 4) (bit_at d 4) (HasBits-bit_at s 4 (omega arith)) (bit_at-lt d 4))
        ∙ wide_is d

    -- ---- the laws
    low_sound : (next : ℕ) → 4 ≤ n → Meets z (low_power_of y next).list → IsShiftPower 16 z (low_power_of y next).answer d
    unfolding low_power_of times_of fresh put pure ◌>>=◌
    low_sound next short meets = search (arith, value-wire, both_value, middle_value, low_value)

    low_complete : (next : ℕ) → 4 ≤ n → HasFrom z next (low_power_values d) → Meets z (low_power_of y next).list
    unfolding low_power_of times_of fresh put pure ◌>>=◌
    low_complete next short has = search (arith, both_value, value-wire, middle_value, low_value)

    wide_sound : (next : ℕ) → 5 ≤ n → Meets z (wide_power_of y next).list → IsShiftPower 32 z (wide_power_of y next).answer d
    unfolding wide_power_of low_power_of times_of fresh put pure ◌>>=◌
    wide_sound next short meets = search (arith, low_sound, value-wire, wide_value)

    wide_complete : (next : ℕ) → 5 ≤ n → HasFrom z next (wide_power_values d) → Meets z (wide_power_of y next).list
    unfolding wide_power_of low_power_of times_of fresh put pure ◌>>=◌
    wide_complete next short has =
        let low = low_complete next (omega arith) (has.0, (has.1.0, (has.1.1.0, tt))) in
        let power = wide_value (next + 1 + 1) short has.1.1.0 ∙ sym (value-wire assigns (next + 1 + 1 + 1) ∙ has.1.1.1.0) in
        (low.0, (low.1.0, (low.1.1.0, (power, tt))))

abbrev sound_at : ℕ → Type 0
sound_at w = (z : List ℕ) (next : ℕ) (y : Bits) (d : ℕ) → Assigns z → HasBits z y.first w d
    → Meets z (shift_power_of w y next).list → IsShiftPower w z (shift_power_of w y next).answer d

pub shift_power_sound : ShiftPowerIsSound
unfolding shift_power_of
shift_power_sound =
    for_widths sound_at
    (λ z next y d assigns s meets. low_sound z assigns y.first 16 d s next (omega arith) meets)
    (λ z next y d assigns s meets. wide_sound z assigns y.first 32 d s next (omega arith) meets)

abbrev complete_at : ℕ → Type 0
complete_at w = (z : List ℕ) (next : ℕ) (y : Bits) (d : ℕ) → Assigns z → HasBits z y.first w d
    → HasFrom z next (shift_power_values w d) → Meets z (shift_power_of w y next).list

pub shift_power_complete : ShiftPowerIsComplete
unfolding shift_power_of
shift_power_complete =
    for_widths complete_at
    (λ z next y d assigns s has. low_complete z assigns y.first 16 d s next (omega arith) has)
    (λ z next y d assigns s has. wide_complete z assigns y.first 32 d s next (omega arith) has)

-- ---- sizes and costs
module _ (y : Bits) (next : ℕ) where
  answer_at : (w : ℕ) → IsWidth w → (shift_power_of w y next).answer ≡ shift_power_wires w next
  unfolding shift_power_of low_power_of wide_power_of times_of fresh put pure ◌>>=◌
  answer_at =
      for_widths (λ w. (shift_power_of w y next).answer ≡ shift_power_wires w next)
      (same (next + 1 + 1) (next + 2) (omega arith))
      (same (next + 1 + 1 + 1) (next + 3) (omega arith))
    where
      same : (m n : ℕ) → m ≡ n → ◌≡◌ {A = ShiftPower} (record { both = next; power = m }) (record { both = next; power = n })
      same m n e = ap (λ k. record { both = next; power = k }) e

  next_at : (w : ℕ) → IsWidth w → (shift_power_of w y next).next ≡ next + shift_power_made w
  unfolding shift_power_of low_power_of wide_power_of times_of fresh put pure ◌>>=◌
  next_at = for_widths (λ w. (shift_power_of w y next).next ≡ next + shift_power_made w) (omega arith) (omega arith)

  count_at : (w : ℕ) → IsWidth w → length (shift_power_of w y next).list ≡ shift_power_made w
  unfolding shift_power_of low_power_of wide_power_of times_of fresh put pure ◌>>=◌
  count_at = for_widths (λ w. length (shift_power_of w y next).list ≡ shift_power_made w) refl refl

  terms_at : (w : ℕ) → IsWidth w → terms_in (shift_power_of w y next).list ≡ w / 4 + 10
  unfolding shift_power_of low_power_of wide_power_of times_of fresh put pure ◌>>=◌
  terms_at = for_widths (λ w. terms_in (shift_power_of w y next).list ≡ w / 4 + 10) refl refl

fills_at : (d : ℕ) (w : ℕ) → IsWidth w → length (shift_power_values w d) ≡ shift_power_made w
fills_at d = for_widths (λ w. length (shift_power_values w d) ≡ shift_power_made w) refl refl

both_below : (d : ℕ) → bit_at d 0 * bit_at d 1 < P
both_below d = let bit = product_bit (bit_at d 0) (bit_at d 1) (bit_at-lt d 0) (bit_at-lt d 1) in omega arith

low_in_field : (d : ℕ) (rest : List ℕ) → InField rest → InField (bit_at d 0 * bit_at d 1 ∷ 2 ^ (4 * (d / 4 % 4)) ∷ 2 ^ (d % 16) ∷ rest)
low_in_field d rest others = search (arith, InField-cons, both_below, power_small)

in_field_at : (d : ℕ) (w : ℕ) → IsWidth w → InField (shift_power_values w d)
in_field_at d =
    for_widths (λ w. InField (shift_power_values w d))
    (low_in_field d [] InField-none)
    (low_in_field d (2 ^ (d % 32) ∷ []) (InField-cons (2 ^ (d % 32)) [] (power_small (d % 32) (omega arith)) InField-none))

pub shift_power_sizes : ShiftPowerSizes
shift_power_sizes = record {
  answer = λ w width y next. answer_at y next w width;
  end = λ w width y next. next_at y next w width;
  fills = λ w width y d next. next_at y next w width ∙ ap (λ n. next + n) (sym (fills_at d w width));
  in_field = λ w width d. in_field_at d w width;
}

pub shift_power_cost_laws : ShiftPowerCosts
shift_power_cost_laws = record { constraints = λ w width y next. count_at y next w width; terms = λ w width y next. terms_at y next w width }
