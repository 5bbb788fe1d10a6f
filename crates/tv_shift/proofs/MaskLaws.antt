-- The laws of a part that masks let through.
use Rattle.tv_core.proofs.Common.{◌≡◌, ℕ, ◌+◌, ◌-◌, ◌*◌, ◌/◌, ◌%◌, ◌^◌, ◌<◌, ◌≤◌, List, [], ◌++◌, inl, inr, refl, sym, subst, ◌∙◌, ap, ap₂, arith, mod-eq_of_lt}
use Rattle.tv_core.proofs.Common.{cases_lt, bit_at, slice_index, value-append, value-less, value-wire, Meets-split, Meets-join, here, fresh, put, pure, ◌>>=◌}
use Rattle.tv_core.proofs.Common.{wire, Combination, value, Assigns, Meets, HasFrom, sequence, for_widths, IsWidth}
use Rattle.std.proofs.Common.{mul-one}
use Rattle.std.proofs.Math.Nat.{mod-le}
use Rattle.std.proofs.lemmas.Nat.{pow-add, mul-mod_first}
use Rattle.std.proofs.lemmas.Nat.Bits.{bit_at-lt}
use Rattle.tv_bits.proofs.PairLaws.{two_ands_sound, two_ands_complete}
use Rattle.tv_bits.proofs.BitNumbers.{sum_below-plus, HasBits-below, HasBits-bit_at, HasBits-low, HasBits-high, picked-bit_at}
use Rattle.tv_bits.specs.Bit.{IsBit}
use Rattle.tv_bits.specs.Bits.{HasBits, bits_combination}
use Rattle.tv_bits.specs.Pairs.{two_ands, two_ands_of}
use Rattle.tv_bits.specs.Select.{selected}
use Rattle.tv_core.proofs.BelowLaws.{sum_below-same, sum_below-mod_same, sum_below-zeros, sum_below-add, value-weighted, has_each}
use Rattle.tv_core.proofs.LoopLaws.{turn_met, turns_met, turns-next}
use Rattle.tv_core.specs.Below.{sum_below}
use Rattle.tv_core.specs.declared.field.TheConstants.{P}
use Rattle.tv_bits.proofs.BitLaws.{bit_cases, product_bit}
use Rattle.tv_shift.proofs.ShiftNumbers.{half_power}
use Rattle.tv_shift.proofs.ThermometerLaws.{below-in, below-out, below-bit, Marks}
use Rattle.tv_shift.specs.Halves.{chosen_half, other_half}
use Rattle.tv_shift.specs.Masks.{masked_pair_of, masked_of, masked_value, masked_values, half_log, mask_at, mask_value, digit_at}
use Rattle.tv_shift.specs.Thermometer.{below}
use Rattle.tv_shift.specs.declared.masks.Part.{Part}
use Rattle.tv_shift.specs.declared.masks.Part.TheVariants.{Low, High}
use Rattle.tv_shift.specs.declared.masks.Places.{Places}

-- ---- sums
-- the s low bits of a number are its remainder
pub low_part : (n s u : ℕ) → s ≤ n → sum_below n (λ i. 2 ^ i * (below i s * bit_at u i)) ≡ u % 2 ^ s
low_part n s u short =
    let f : ℕ → ℕ = λ i. 2 ^ i * (below i s * bit_at u i) in
    let whole : s + (n - s) ≡ n = omega arith in
    let first = sum_below-same s f (λ i. 2 ^ i * bit_at u i) (λ i h. ap (λ m. 2 ^ i * (m * bit_at u i)) (below-in i s h) ∙ omega arith) in
    let rest = sum_below-zeros (n - s) (λ i. f (s + i))
    (λ i h. ap (λ m. 2 ^ (s + i) * (m * bit_at u (s + i))) (below-out (s + i) s (omega arith)) ∙ omega arith) in
    ap (λ k. sum_below k f) (sym whole) ∙ sum_below-add s (n - s) f ∙ ap₂ (λ a b. a + b) (first ∙ picked-bit_at s u) rest ∙ omega arith

-- and the s high bits of a number of n bits are what that leaves for the others
pub high_part : (n s v : ℕ) → s ≤ n → v < 2 ^ n → sum_below n (λ i. 2 ^ i * (below (n - 1 - i) s * bit_at v i)) + v % 2 ^ (n - s) ≡ v
high_part n s v short small =
    let f : ℕ → ℕ = λ i. 2 ^ i * (below (n - 1 - i) s * bit_at v i) in
    let g : ℕ → ℕ = λ i. 2 ^ i * (below i (n - s) * bit_at v i) in
    let both : (i : ℕ) → i < n → f i + g i ≡ 2 ^ i * bit_at v i = λ i h. elim (cases_lt i (n - s)) [
      | inl low ↦ ap₂ (λ a b. 2 ^ i * (a * bit_at v i) + 2 ^ i * (b * bit_at v i)) (below-out (n - 1 - i) s (omega arith)) (below-in i (n - s) low)
          ∙ omega arith
      | inr high ↦ ap₂ (λ a b. 2 ^ i * (a * bit_at v i) + 2 ^ i * (b * bit_at v i)) (below-in (n - 1 - i) s (omega arith)) (below-out i (n - s) high)
          ∙ omega arith
    ] in
    ap (λ k. sum_below n f + k) (sym (low_part n (n - s) v (omega arith))) ∙ sym (sum_below-plus n f g)
    ∙ sum_below-same n (λ i. f i + g i) (λ i. 2 ^ i * bit_at v i) both ∙ picked-bit_at n v ∙ mod-eq_of_lt small

-- ---- circuits
pair-next : (mask digit : ℕ → Combination) (n i at : ℕ) → (masked_pair_of mask digit n i at).next ≡ at + 1
unfolding masked_pair_of two_ands_of fresh put ◌>>=◌
pair-next mask digit n i at = refl

turn-next : (mask digit : ℕ → Combination) (n next i : ℕ) → (sequence i (masked_pair_of mask digit n) next).next ≡ next + i
turn-next mask digit n next i = turns-next (λ i _. masked_pair_of mask digit n i) tt next 1 i (λ i a at. pair-next mask digit n i at)
    ∙ ap (λ k. next + k) (mul-one i)

pub masked_next : (mask digit : ℕ → Combination) (n next : ℕ) → (masked_of mask digit n next).next ≡ next + n
unfolding masked_of here pure ◌>>=◌
masked_next mask digit n next = turn-next mask digit n next n

-- the second bit of a pair is weighed by the square of the circuit's constant
weight : (w : ℕ) → IsWidth w → (m n : ℕ) → IsBit m → IsBit n → (m + 2 ^ (w / 4 / 2) * 2 ^ (w / 4 / 2) * n) % P ≡ m + 2 ^ (w / 4) * n
weight = for_widths (λ w. (m n : ℕ) → IsBit m → IsBit n → (m + 2 ^ (w / 4 / 2) * 2 ^ (w / 4 / 2) * n) % P ≡ m + 2 ^ (w / 4) * n) (λ m n h k. omega arith)
    (λ m n h k. omega arith)

two_small : (w : ℕ) → IsWidth w → (a b c d : ℕ) → IsBit a → IsBit b → IsBit c → IsBit d → two_ands a b c d (2 ^ (w / 4 / 2)) ≡ a * b + 2 ^ (w / 4) * (c * d)
two_small w width a b c d p q r s = weight w width (a * b) (c * d) (product_bit a b p q) (product_bit c d r s)

module _ (w : ℕ) (width : IsWidth w) (z : List ℕ) (assigns : Assigns z) (mask digit : ℕ → Combination) (m d : ℕ → ℕ)
    (mask_is : (i : ℕ) → i < w / 2 → value (mask i) z ≡ m i) (mask_bit : (i : ℕ) → IsBit (m i))
    (digit_is : (i : ℕ) → i < w / 2 → value (digit i) z ≡ d i) (digit_bit : (i : ℕ) → IsBit (d i)) where
  ands : (i : ℕ) → i < w / 4 → two_ands (value (mask i) z) (value (digit i) z) (value (mask (w / 4 + i)) z) (value (digit (w / 4 + i)) z) (2 ^ (w / 4 / 2))
      ≡ m i * d i + 2 ^ (w / 4) * (m (w / 4 + i) * d (w / 4 + i))
  ands i h = search (arith, two_small)

  pair_sound : (i at : ℕ) → i < w / 4 → Meets z (masked_pair_of mask digit (w / 4) i at).list
      → slice_index z at ≡ m i * d i + 2 ^ (w / 4) * (m (w / 4 + i) * d (w / 4 + i))
  unfolding masked_pair_of fresh ◌>>=◌
  pair_sound i at h meets =
      sym (value-wire assigns at)
      ∙ two_ands_sound z (at + 1) (mask i) (digit i) (mask (w / 4 + i)) (digit (w / 4 + i)) (2 ^ (w / 4 / 2)) (wire at) assigns (bit_of_mask i (omega arith))
      (bit_of_digit i (omega arith)) (bit_of_mask (w / 4 + i) (omega arith)) (bit_of_digit (w / 4 + i) (omega arith)) meets
      ∙ ands i h
    where
      bit_of_mask : (i : ℕ) → i < w / 2 → IsBit (value (mask i) z)
      bit_of_mask i h = omega (arith, mask_is i h, mask_bit i)

      bit_of_digit : (i : ℕ) → i < w / 2 → IsBit (value (digit i) z)
      bit_of_digit i h = omega (arith, digit_is i h, digit_bit i)

  pair_complete : (i at : ℕ) → i < w / 4 → slice_index z at ≡ m i * d i + 2 ^ (w / 4) * (m (w / 4 + i) * d (w / 4 + i))
      → Meets z (masked_pair_of mask digit (w / 4) i at).list
  unfolding masked_pair_of fresh ◌>>=◌
  pair_complete i at h is =
      two_ands_complete z (at + 1) (mask i) (digit i) (mask (w / 4 + i)) (digit (w / 4 + i)) (2 ^ (w / 4 / 2)) (wire at) assigns (bit_of_mask i (omega arith))
      (bit_of_digit i (omega arith)) (bit_of_mask (w / 4 + i) (omega arith)) (bit_of_digit (w / 4 + i) (omega arith))
      (value-wire assigns at ∙ is ∙ sym (ands i h))
    where
      bit_of_mask : (i : ℕ) → i < w / 2 → IsBit (value (mask i) z)
      bit_of_mask i h = omega (arith, mask_is i h, mask_bit i)

      bit_of_digit : (i : ℕ) → i < w / 2 → IsBit (value (digit i) z)
      bit_of_digit i h = omega (arith, digit_is i h, digit_bit i)

  pub masked_sound : (next : ℕ) → Meets z (masked_of mask digit (w / 4) next).list
      → value (bits_combination next (w / 4)) z ≡ sum_below (w / 2) (λ i. 2 ^ i * (m i * d i)) % P
  unfolding masked_of here pure ◌>>=◌
  masked_sound next meets =
      let turns = (Meets-split z (sequence (w / 4) (masked_pair_of mask digit (w / 4)) next).list [] meets).0 in
      let each : (i : ℕ) → i < w / 4 → slice_index z (next + i) ≡ m i * d i + 2 ^ (w / 4) * (m (w / 4 + i) * d (w / 4 + i)) = λ i h.
      rw (turn-next mask digit (w / 4) next i) at (pair_sound i _ h (turn_met z (λ i _. masked_pair_of mask digit (w / 4) i) tt next (w / 4) i h turns)) in
      let f : ℕ → ℕ = λ i. 2 ^ i * (m i * d i) in
      let halves : w / 4 + w / 4 ≡ w / 2 = omega arith in
      let spread : (i a b : ℕ) → 2 ^ i * (a + 2 ^ (w / 4) * b) ≡ 2 ^ i * a + 2 ^ (w / 4 + i) * b = λ i a b. rw (pow-add 2 (w / 4) i) (omega arith) in
      value-weighted next (w / 4) (λ i. 2 ^ i % P) z
      ∙ sum_below-mod_same (w / 4) (λ i. 2 ^ i % P * slice_index z (next + i)) (λ i. f i + f (w / 4 + i)) P
      (λ i h. mul-mod_first (2 ^ i) (slice_index z (next + i)) P
      ∙ ap (λ k. k % P) (ap (λ k. 2 ^ i * k) (each i h) ∙ spread i (m i * d i) (m (w / 4 + i) * d (w / 4 + i))))
      ∙ ap (λ k. k % P) (sum_below-plus (w / 4) f (λ i. f (w / 4 + i)) ∙ sym (sum_below-add (w / 4) (w / 4) f) ∙ ap (λ n. sum_below n f) halves)

  pub masked_complete : (next : ℕ) → ((i : ℕ) → i < w / 4 → slice_index z (next + i) ≡ m i * d i + 2 ^ (w / 4) * (m (w / 4 + i) * d (w / 4 + i)))
      → Meets z (masked_of mask digit (w / 4) next).list
  unfolding masked_of here pure ◌>>=◌
  masked_complete next each =
      Meets-join z (sequence (w / 4) (masked_pair_of mask digit (w / 4)) next).list []
      (turns_met z (λ i _. masked_pair_of mask digit (w / 4) i) tt next (w / 4)
      (λ i h. pair_complete i _ h (rw (turn-next mask digit (w / 4) next i) (each i h)))) tt

-- ---- the two parts that fall away
-- the half that a part is of
abbrev pub half_of : ℕ → ℕ → ℕ → Part → ℕ
half_of n b v Low = chosen_half n b v
half_of n b v High = other_half n b v

module _ (w : ℕ) (width : IsWidth w) (z : List ℕ) (assigns : Assigns z) (p : Places) (s b v : ℕ) (small : s < w / 2) (bit : IsBit b)
    (marks : Marks z p.distance p.products (half_log w) s) (word : HasBits z p.word w v) (chosen : HasBits z p.chosen (w / 2) (chosen_half (w / 2) b v)) where
  halves : HasBits z p.word (w / 2 + w / 2) v
  halves = subst (λ n. HasBits z p.word n v) (let same : w ≡ w / 2 + w / 2 = omega arith in same) word

  -- the marks are as many as half a word has bits
  among_marks : (i : ℕ) → i < w / 2 → i < 2 ^ half_log w
  among_marks i h = omega (arith, half_power w width)

  half-small : (n : ℕ) → n < 2 ^ (w / 2) → n < P
  half-small n h = grind arith

  -- each half has half a word's bits
  pub chosen-below : chosen_half (w / 2) b v < 2 ^ (w / 2)
  chosen-below = HasBits-below chosen

  pub other-below : other_half (w / 2) b v < 2 ^ (w / 2)
  other-below = elim (bit_cases b bit) [
    | inl none ↦ rw none (HasBits-below (HasBits-high z p.word (w / 2) (w / 2) v halves))
    | inr one ↦ rw one (HasBits-below (HasBits-low z p.word (w / 2) (w / 2) v halves))
  ]

  mask-is : (part : Part) (i : ℕ) → i < w / 2 → value (mask_at w p part i) z ≡ mask_value w s part i
  unfolding mask_at
  mask-is Low i h = marks i (among_marks i h)
  mask-is High i h = marks (w / 2 - 1 - i) (among_marks (w / 2 - 1 - i) (omega arith))

  mask-bit : (part : Part) (i : ℕ) → IsBit (mask_value w s part i)
  mask-bit Low i = below-bit i s
  mask-bit High i = below-bit (w / 2 - 1 - i) s

  difference : (l h u : ℕ) → IsBit l → IsBit h → u ≡ selected b h l → ((l + h) % P + (P - u)) % P ≡ selected b l h
  difference l h u p q is = search (arith, bit_cases)

  chosen_digit : (i : ℕ) → bit_at (chosen_half (w / 2) b v) i ≡ selected b (bit_at (v / 2 ^ (w / 2)) i) (bit_at (v % 2 ^ (w / 2)) i)
  chosen_digit i = elim (bit_cases b bit) [ inl none ↦ rw none refl | inr one ↦ rw one refl ]

  other_digit : (i : ℕ) → bit_at (other_half (w / 2) b v) i ≡ selected b (bit_at (v % 2 ^ (w / 2)) i) (bit_at (v / 2 ^ (w / 2)) i)
  other_digit i = elim (bit_cases b bit) [ inl none ↦ rw none refl | inr one ↦ rw one refl ]

  digit-is : (part : Part) (i : ℕ) → i < w / 2 → value (digit_at w p part i) z ≡ bit_at (half_of (w / 2) b v part) i
  unfolding digit_at
  digit-is Low i h = value-wire assigns (p.chosen + i) ∙ HasBits-bit_at chosen i h
  digit-is High i h =
      let l = HasBits-bit_at (HasBits-low z p.word (w / 2) (w / 2) v halves) i h in
      let place : p.word + (w / 2 + i) ≡ p.word + w / 2 + i = omega arith in
      let u = ap (λ k. slice_index z k) place ∙ HasBits-bit_at (HasBits-high z p.word (w / 2) (w / 2) v halves) i h in
      let low_bit = bit_at-lt (v % 2 ^ (w / 2)) i in
      let high_bit = bit_at-lt (v / 2 ^ (w / 2)) i in
      value-less (wire (p.word + i) ++ wire (p.word + (w / 2 + i))) (wire (p.chosen + i)) z
      ∙ ap₂ (λ m n. (m + (P - n)) % P) (value-append (wire (p.word + i)) (wire (p.word + (w / 2 + i))) z
      ∙ ap₂ (λ m n. (m + n) % P) (value-wire assigns (p.word + i) ∙ l) (value-wire assigns (p.word + (w / 2 + i)) ∙ u))
      (value-wire assigns (p.chosen + i) ∙ HasBits-bit_at chosen i h)
      ∙ difference (bit_at (v % 2 ^ (w / 2)) i) (bit_at (v / 2 ^ (w / 2)) i) (bit_at (chosen_half (w / 2) b v) i) low_bit high_bit (chosen_digit i)
      ∙ sym (other_digit i)

  value-part : (part : Part) (next : ℕ) → Meets z (masked_of (mask_at w p part) (digit_at w p part) (w / 4) next).list
      → value (bits_combination next (w / 4)) z ≡ sum_below (w / 2) (λ i. 2 ^ i * (mask_value w s part i * bit_at (half_of (w / 2) b v part) i)) % P
  value-part part next meets =
      masked_sound w width z assigns (mask_at w p part) (digit_at w p part) (mask_value w s part) (bit_at (half_of (w / 2) b v part)) (mask-is part)
      (mask-bit part) (digit-is part) (λ i. bit_at-lt (half_of (w / 2) b v part) i) next meets

  pub part_complete : (part : Part) (next : ℕ) → HasFrom z next (masked_values (mask_value w s part) (half_of (w / 2) b v part) (w / 4))
      → Meets z (masked_of (mask_at w p part) (digit_at w p part) (w / 4) next).list
  part_complete part next has =
      masked_complete w width z assigns (mask_at w p part) (digit_at w p part) (mask_value w s part) (bit_at (half_of (w / 2) b v part)) (mask-is part)
      (mask-bit part) (digit-is part) (λ i. bit_at-lt (half_of (w / 2) b v part) i) next
      (has_each z next (w / 4) (masked_value (mask_value w s part) (half_of (w / 2) b v part) (w / 4)) has)

  pub low_sound : (next : ℕ) → Meets z (masked_of (mask_at w p Low) (digit_at w p Low) (w / 4) next).list
      → value (bits_combination next (w / 4)) z ≡ chosen_half (w / 2) b v % 2 ^ s
  low_sound next meets =
      let below = mod-le (chosen_half (w / 2) b v) (2 ^ s) in
      value-part Low next meets ∙ ap (λ k. k % P) (low_part (w / 2) s (chosen_half (w / 2) b v) (omega arith))
      ∙ mod-eq_of_lt (half-small _ (omega (arith, chosen-below)))

  pub high_sound : (next : ℕ) → Meets z (masked_of (mask_at w p High) (digit_at w p High) (w / 4) next).list
      → value (bits_combination next (w / 4)) z + other_half (w / 2) b v % 2 ^ (w / 2 - s) ≡ other_half (w / 2) b v
  high_sound next meets =
      let sum = high_part (w / 2) s (other_half (w / 2) b v) (omega arith) other-below in
      let part : value (bits_combination next (w / 4)) z
      ≡ sum_below (w / 2) (λ i. 2 ^ i * (below (w / 2 - 1 - i) s * bit_at (other_half (w / 2) b v) i)) = value-part High next meets
      ∙ mod-eq_of_lt (half-small _ (omega (arith, other-below))) in
      ap (λ k. k + other_half (w / 2) b v % 2 ^ (w / 2 - s)) part ∙ sum
