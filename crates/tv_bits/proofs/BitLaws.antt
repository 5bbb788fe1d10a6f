-- The laws of a bit.
use Rattle.tv_core.proofs.Common.{◌⊎◌, ◌≡◌, ℕ, ◌*◌, ◌%◌, inl, inr, arith, value-wire, wire-below, put}
use Rattle.std.proofs.Common.{eq-zero-or-pos}
use Rattle.tv_core.proofs.PrimeLaws.{p_bit}
use Rattle.tv_core.specs.declared.field.TheConstants.{P}
use Rattle.tv_bits.specs.Bit.{IsBit, bit_of, BitIsSound, BitIsComplete}

-- a bit is 0 or 1
pub bit_cases : (b : ℕ) → IsBit b → (b ≡ 0) ⊎ (b ≡ 1)
bit_cases b h = elim (eq-zero-or-pos b) [ inl none ↦ inl none | inr some ↦ inr (omega arith) ]

pub product_bit : (a b : ℕ) → IsBit a → IsBit b → IsBit (a * b)
product_bit a b h k = elim (bit_cases a h) [ inl p ↦ rw p (omega arith) | inr p ↦ rw p (omega (arith, k)) ]

square : (b : ℕ) → IsBit b → b * b % P ≡ b
square b h = search (arith, eq-zero-or-pos)

pub bit_sound : BitIsSound
unfolding bit_of put
bit_sound z next w assigns meets = search (arith, value-wire, p_bit, wire-below)

pub bit_complete : BitIsComplete
unfolding bit_of put
bit_complete z next w assigns bit = search (arith, value-wire, square)
