-- New bits, by what they hold.
use Rattle.tv_core.proofs.Common.{ℕ, ◌+◌, ◌<◌, List, refl, slice_index, bit_at, Assigns, Meets}
use Rattle.tv_core.proofs.HasLaws.{has_of_each}
use Rattle.tv_bits.proofs.BitNumbers.{HasBits-bit_at}
use Rattle.tv_bits.proofs.BitsLaws.{new_bits_sound, new_bits_complete, new_bits_answer}
use Rattle.tv_bits.specs.Bit.{IsBit}
use Rattle.tv_bits.specs.Bits.{HasBits, binary_value, new_bits_of}

-- an assignment that satisfies the constraints of bits has wires that represent some number
pub bits_are : (z : List ℕ) (n at : ℕ) → Assigns z → Meets z (new_bits_of n at).list → HasBits z at n (binary_value z at n)
bits_are z n at assigns meets = rw new_bits_answer at (new_bits_sound z at n assigns meets)

-- an assignment that has bits at them meets it
pub bits_met : (z : List ℕ) (n at : ℕ) → Assigns z → ((i : ℕ) → i < n → IsBit (slice_index z (at + i))) → Meets z (new_bits_of n at).list
bits_met z n at assigns bits =
    let s : HasBits z at n (binary_value z at n) = record { bits = bits; number = refl } in
    new_bits_complete z at n (binary_value z at n) assigns (has_of_each z at n (bit_at (binary_value z at n)) (HasBits-bit_at s))
