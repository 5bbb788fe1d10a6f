-- Numbers of 2 w bits, given in two halves.
use Rattle.tv_core.proofs.Common.{◌≡◌, ℕ, ◌+◌, ◌*◌, ◌/◌, ◌%◌, ◌^◌, ◌<◌, List, length, arith, bit_at, length-each_below, HasFrom-split, each_below, HasFrom}
use Rattle.tv_core.proofs.Common.{InField, IsWidth}
use Rattle.std.proofs.Common.{length-append}
use Rattle.std.proofs.lemmas.Nat.{shr_split}
use Rattle.tv_core.proofs.FieldLaws.{InField-append}
use Rattle.tv_bits.proofs.SizeLaws.{bits_in_field}
use Rattle.tv_bits.proofs.BitNumbers.{HasBits-from_values, HasBits-join}
use Rattle.tv_bits.specs.Bits.{HasBits, bits_values}
use Rattle.tv_muldiv.specs.Weighed.{halves_values}

pub length-halves : (w v : ℕ) → length (halves_values w v) ≡ 2 * w
length-halves w v = simp (length-append, length-each_below) (omega arith)

pub halves_are : (w : ℕ) → IsWidth w → (z : List ℕ) (first v : ℕ) → v < 2 ^ (2 * w) → HasFrom z first (halves_values w v) → HasBits z first (2 * w) v
halves_are w width z first v small has =
    let both = HasFrom-split z first (each_below w (bit_at (v % 2 ^ w))) (each_below w (bit_at (v / 2 ^ w))) has in
    let low = HasBits-from_values z first w (v % 2 ^ w) (grind arith) both.0 in
    let high = HasBits-from_values z (first + w) w (v / 2 ^ w) (grind arith) (rw length-each_below at both.1) in
    rw (shr_split, (let same : w + w ≡ 2 * w = omega arith in same)) at (HasBits-join z first w w (v % 2 ^ w) (v / 2 ^ w) low high)

pub halves_in_field : (w v : ℕ) → InField (halves_values w v)
halves_in_field w v = InField-append (bits_values (v % 2 ^ w) w) (bits_values (v / 2 ^ w) w) (bits_in_field (v % 2 ^ w) w) (bits_in_field (v / 2 ^ w) w)
