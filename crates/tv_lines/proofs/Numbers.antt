-- The value of a row of bits.
use Rattle.tv_core.proofs.Common.{◌≡◌, ℕ, ◌≤◌, List, ◌∙◌, ap, value}
use Rattle.tv_bits.proofs.BitNumbers.{value-bits_below}
use Rattle.tv_bits.specs.Bits.{HasBits, bits_combination}
use Rattle.tv_bits.specs.Number.{number_of}
use Rattle.tv_bits.specs.declared.bit_wires.Bits.{Bits}

pub number_value : (z : List ℕ) (x : Bits) (n v : ℕ) → x.n ≡ n → n ≤ 63 → HasBits z x.first n v → value (number_of x) z ≡ v
number_value z x n v width short s = ap (λ k. value (bits_combination x.first k) z) width ∙ value-bits_below s short
