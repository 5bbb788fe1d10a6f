-- The law of the halves of a word.
use Rattle.tv_core.proofs.Common.{◌≡◌, ◌+◌, ◌/◌, arith, subst, width_short}
use Rattle.tv_bits.proofs.BitNumbers.{HasBits-low, HasBits-high, value-bits_below}
use Rattle.tv_bits.specs.Bits.{HasBits}
use Rattle.tv_limb.specs.Limbs.{LimbsAreSound}

pub limbs_sound : LimbsAreSound
limbs_sound w width z x v s =
    let half = w / 2 in
    let halves = subst (λ n. HasBits z x.first n v) (let same : w ≡ half + half = omega arith in same) s in
    let short = width_short w width in
    (value-bits_below (HasBits-low z x.first half half v halves) (omega arith), value-bits_below (HasBits-high z x.first half half v halves) (omega arith))
