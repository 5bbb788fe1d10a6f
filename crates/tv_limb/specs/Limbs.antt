-- The halves of a word.
use Rattle.std.specs.Prelude.{◌≡◌, ℕ, ◌+◌, ◌/◌, ◌%◌, ◌^◌, List}
use Rattle.tv_bits.specs.Bits.{HasBits, bits_combination}
use Rattle.tv_bits.specs.declared.bit_wires.Bits.{Bits}
use Rattle.tv_core.specs.Constraints.{Combination, value}
use Rattle.tv_word.specs.Widths.{IsWidth}

-- the lower half of a word's bits, each times its power of 2
abbrev pub low_limb : ℕ → Bits → Combination
low_limb w x = bits_combination x.first (w / 2)

-- the upper half, from the power 1 on
abbrev pub high_limb : ℕ → Bits → Combination
high_limb w x = bits_combination (x.first + w / 2) (w / 2)

-- where the bits represent v, the values are its remainder and its quotient by 2 ^ (w / 2)
abbrev pub LimbsAreSound : Type 0
LimbsAreSound = (w : ℕ) → IsWidth w → (z : List ℕ) (x : Bits) (v : ℕ) → HasBits z x.first w v
    → (value (low_limb w x) z ≡ v % 2 ^ (w / 2)) × (value (high_limb w x) z ≡ v / 2 ^ (w / 2))
