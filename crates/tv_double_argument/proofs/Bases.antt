-- The number of words of 16 or of 32 bits.
use Rattle.tv_core.proofs.Common.{ℕ, ◌^◌, inl, inr, ap, IsWidth}
use Rattle.tv_doubles.specs.Within.{IsBase}

pub base_of : (w : ℕ) → IsWidth w → IsBase (2 ^ w)
base_of w (inl e) = inl (ap (λ w. 2 ^ w) e)
base_of w (inr e) = inr (ap (λ w. 2 ^ w) e)
