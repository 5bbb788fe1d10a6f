-- The laws of new bits, and of a number's bits.
use Rattle.tv_core.proofs.Common.{◌≡◌, ℕ, ◌+◌, ◌*◌, ◌%◌, ◌<◌, List, [], refl, sym, ◌∙◌, ap, ap₂, arith, subst, mod-eq_of_lt, slice_index, value-below}
use Rattle.tv_core.proofs.Common.{Meets-split, Meets-join, here, fresh, put, pure, ◌>>=◌, constant, Combination, value, Assigns, Meets, sequence}
use Rattle.std.proofs.Common.{mul-one}
use Rattle.std.proofs.lemmas.Nat.Bits.{bit_at-lt}
use Rattle.tv_core.proofs.BelowLaws.{has_each}
use Rattle.tv_core.proofs.CombinationLaws.{value-constant}
use Rattle.tv_core.proofs.LoopLaws.{turn_met, turns_met, turns-next}
use Rattle.tv_core.specs.declared.field.TheConstants.{P}
use Rattle.tv_bits.proofs.BitLaws.{bit_sound, bit_complete}
use Rattle.tv_bits.proofs.BitNumbers.{HasBits-small, HasBits-from_values, value-bits}
use Rattle.tv_bits.specs.Bit.{IsBit, bit_of}
use Rattle.tv_bits.specs.Bits.{HasBits, binary_value, bits_combination, new_bit, new_bits_of, bits_of, NewBitsAreSound, NewBitsAreComplete, BitsAreSound}
use Rattle.tv_bits.specs.Bits.{BitsAreComplete}

-- a turn makes one wire, and holds it to 0 or 1
new_bit-next : (at : ℕ) → (new_bit at).next ≡ at + 1
unfolding new_bit bit_of put fresh ◌>>=◌
new_bit-next at = refl

turn-next : (next n : ℕ) → (sequence n (λ _. new_bit) next).next ≡ next + n
turn-next next n = turns-next (λ _ _. new_bit) tt next 1 n (λ i a at. new_bit-next at) ∙ ap (λ k. next + k) (mul-one n)

new_bit_sound : (z : List ℕ) (at : ℕ) → Assigns z → Meets z (new_bit at).list → IsBit (slice_index z at)
unfolding new_bit fresh ◌>>=◌
new_bit_sound z at assigns meets = bit_sound z (at + 1) at assigns meets

new_bit_complete : (z : List ℕ) (at : ℕ) → Assigns z → IsBit (slice_index z at) → Meets z (new_bit at).list
unfolding new_bit fresh ◌>>=◌
new_bit_complete z at assigns bit = bit_complete z (at + 1) at assigns bit

-- what the turns put
turn_bits : (z : List ℕ) (next n : ℕ) → Assigns z → Meets z (sequence n (λ _. new_bit) next).list → (i : ℕ) → i < n → IsBit (slice_index z (next + i))
turn_bits z next n assigns meets i h =
    rw turn-next at (new_bit_sound z _ assigns (turn_met z (λ _ _. new_bit) tt next n i h meets))

turns_bits : (z : List ℕ) (next n : ℕ) → Assigns z → ((i : ℕ) → i < n → IsBit (slice_index z (next + i))) → Meets z (sequence n (λ _. new_bit) next).list
turns_bits z next n assigns bits =
    turns_met z (λ _ _. new_bit) tt next n (λ i h. new_bit_complete z _ assigns (rw turn-next (bits i h)))

-- what the circuits answer, and where they end
pub new_bits_answer : (n next : ℕ) → (new_bits_of n next).answer ≡ record { first = next; n = n }
unfolding new_bits_of here pure ◌>>=◌
new_bits_answer n next = refl

pub new_bits_next : (n next : ℕ) → (new_bits_of n next).next ≡ next + n
unfolding new_bits_of here pure ◌>>=◌
new_bits_next n next = turn-next next n

pub bits_answer : (x : Combination) (n next : ℕ) → (bits_of x n next).answer ≡ record { first = next; n = n }
unfolding bits_of put pure ◌>>=◌
bits_answer x n next = new_bits_answer n next

pub bits_next : (x : Combination) (n next : ℕ) → (bits_of x n next).next ≡ next + n
unfolding bits_of put pure ◌>>=◌
bits_next x n next = new_bits_next n next

-- the laws
pub new_bits_sound : NewBitsAreSound
unfolding new_bits_of here pure ◌>>=◌
new_bits_sound z next n assigns meets = record {
  bits = turn_bits z next n assigns (Meets-split z (sequence n (λ _. new_bit) next).list [] meets).0;
  number = refl;
}

pub new_bits_complete : NewBitsAreComplete
unfolding new_bits_of here pure ◌>>=◌
new_bits_complete z next n x assigns has = search (arith, Meets-join, turns_bits, has_each, bit_at-lt)

-- one times the value of the bits is that value
pub times_one_right : (b : ℕ) → b < P → b * (1 % P) % P ≡ b
times_one_right b small = omega arith

summed : (z : List ℕ) (first n v : ℕ) → v < P → Assigns z → HasBits z first n v → value (bits_combination first n) z * value (constant 1) z % P ≡ v
summed z first n v small assigns s =
    ap₂ (λ a b. a * b % P) (value-bits s ∙ mod-eq_of_lt small) (value-constant assigns 1) ∙ times_one_right v small

pub bits_sound : BitsAreSound
unfolding bits_of new_bits_of here put pure ◌>>=◌
bits_sound z next x n short assigns meets =
    let both = Meets-split z (new_bits_of n next).list _ meets in
    let s = new_bits_sound z next n assigns both.0 in
    let same : binary_value z next n ≡ value x z = sym (summed z next n (binary_value z next n) (HasBits-small s short) assigns s) ∙ both.1.0 in
    subst (λ v. HasBits z next n v) same s

pub bits_complete : BitsAreComplete
unfolding bits_of new_bits_of here put pure ◌>>=◌
bits_complete z next x n small assigns has = search (arith, new_bits_complete, Meets-join, summed, value-below, HasBits-from_values)
