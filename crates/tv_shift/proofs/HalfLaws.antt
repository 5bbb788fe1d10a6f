-- The laws of the chosen half of a word.
use Rattle.tv_core.proofs.Common.{◌≡◌, ℕ, ◌+◌, ◌^◌, ◌<◌, List, [], inl, inr, refl, ◌∙◌, ap, ap₂, arith, bit_at, slice_index, value-wire, Meets-split}
use Rattle.tv_core.proofs.Common.{Meets-join, here, fresh, put, pure, ◌>>=◌, wire, Assigns, Meets, HasFrom, sequence}
use Rattle.std.proofs.Common.{mul-one}
use Rattle.tv_bits.proofs.BitLaws.{bit_cases}
use Rattle.tv_bits.proofs.SelectLaws.{select_sound, select_complete}
use Rattle.tv_bits.proofs.BitNumbers.{HasBits-below, HasBits-bit_at, HasBits-from_bits, HasBits-low, HasBits-high}
use Rattle.tv_bits.specs.Bit.{IsBit}
use Rattle.tv_bits.specs.Bits.{HasBits, bits_values}
use Rattle.tv_bits.specs.Select.{selected, pick_of}
use Rattle.tv_core.proofs.BelowLaws.{has_each}
use Rattle.tv_core.proofs.LoopLaws.{turn_met, turns_met, turns-next}
use Rattle.tv_shift.specs.Halves.{chosen_half, half_bit_of, halves_of}

half_bit-next : (n b x i at : ℕ) → (half_bit_of n b x i at).next ≡ at + 1
unfolding half_bit_of pick_of fresh put pure ◌>>=◌
half_bit-next n b x i at = refl

turn-next : (n b x next i : ℕ) → (sequence i (half_bit_of n b x) next).next ≡ next + i
turn-next n b x next i = turns-next (λ i _. half_bit_of n b x i) tt next 1 i (λ i a at. half_bit-next n b x i at) ∙ ap (λ k. next + k) (mul-one i)

pub halves_next : (n b x next : ℕ) → (halves_of n b x next).next ≡ next + n
unfolding halves_of here pure ◌>>=◌
halves_next n b x next = turn-next n b x next n

module _ (z : List ℕ) (n b x : ℕ) (assigns : Assigns z) (bit : IsBit (slice_index z b)) where
  half_bit_sound : (i at : ℕ) → Meets z (half_bit_of n b x i at).list
      → slice_index z at ≡ selected (slice_index z b) (slice_index z (x + (n + i))) (slice_index z (x + i))
  unfolding half_bit_of pick_of fresh put pure ◌>>=◌
  half_bit_sound i at meets =
      select_sound z at b (wire (x + (n + i))) (wire (x + i)) assigns bit meets
      ∙ ap₂ (λ p q. selected (slice_index z b) p q) (value-wire assigns (x + (n + i))) (value-wire assigns (x + i))

  half_bit_complete : (i at : ℕ) → slice_index z at ≡ selected (slice_index z b) (slice_index z (x + (n + i))) (slice_index z (x + i))
      → Meets z (half_bit_of n b x i at).list
  unfolding half_bit_of pick_of fresh put pure ◌>>=◌
  half_bit_complete i at is = search (arith, select_complete, value-wire)

  each_sound : (next : ℕ) → Meets z (sequence n (half_bit_of n b x) next).list → (i : ℕ) → i < n
      → slice_index z (next + i) ≡ selected (slice_index z b) (slice_index z (x + (n + i))) (slice_index z (x + i))
  each_sound next meets i h = rw (turn-next n b x next i) at (half_bit_sound i _ (turn_met z (λ i _. half_bit_of n b x i) tt next n i h meets))

  each_complete : (next : ℕ) → ((i : ℕ) → i < n → slice_index z (next + i) ≡ selected (slice_index z b) (slice_index z (x + (n + i))) (slice_index z (x + i)))
      → Meets z (sequence n (half_bit_of n b x) next).list
  each_complete next each = turns_met z (λ i _. half_bit_of n b x i) tt next n (λ i h. half_bit_complete i _ (rw (turn-next n b x next i) (each i h)))

  -- the bits of the halves
  module _ (v : ℕ) (s : HasBits z x (n + n) v) where
    chosen_bit : (i : ℕ) → i < n → selected (slice_index z b) (slice_index z (x + (n + i))) (slice_index z (x + i))
        ≡ bit_at (chosen_half n (slice_index z b) v) i
    chosen_bit i h = elim (bit_cases (slice_index z b) bit) [
      | inl none ↦ rw none (HasBits-bit_at (HasBits-low z x n n v s) i h)
      | inr one ↦ rw one (let place : x + (n + i) ≡ x + n + i = omega arith in ap (λ k. slice_index z k) place ∙ HasBits-bit_at (HasBits-high z x n n v s) i h)
    ]

    chosen-below : chosen_half n (slice_index z b) v < 2 ^ n
    chosen-below = elim (bit_cases (slice_index z b) bit) [
      | inl none ↦ rw none (HasBits-below (HasBits-low z x n n v s))
      | inr one ↦ rw one (HasBits-below (HasBits-high z x n n v s))
    ]

    pub halves_sound : (next : ℕ) → Meets z (halves_of n b x next).list → HasBits z (halves_of n b x next).answer n (chosen_half n (slice_index z b) v)
    unfolding halves_of here pure ◌>>=◌
    halves_sound next meets =
        let each = each_sound next (Meets-split z (sequence n (half_bit_of n b x) next).list [] meets).0 in
        HasBits-from_bits z next n (chosen_half n (slice_index z b) v) chosen-below (λ i h. each i h ∙ chosen_bit i h)

    pub halves_complete : (next : ℕ) → HasFrom z next (bits_values (chosen_half n (slice_index z b) v) n) → Meets z (halves_of n b x next).list
    unfolding halves_of here pure ◌>>=◌
    halves_complete next has = search (arith, Meets-join, each_complete, has_each, chosen_bit)
