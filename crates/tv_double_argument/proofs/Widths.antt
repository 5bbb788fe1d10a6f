-- That words have 16 or 32 bits is a fact, and not data; so it comes out of a ghost field, which holds it truncated.
use Rattle.tv_core.proofs.Common.{◌≡◌, ℕ, inl, inr, ap, arith, IsWidth}
use denote.Struct.Props.{props}
use mathlib.Core.Logic.{∥∥₁_elim}

width_prop : (w : ℕ) → IsProp (IsWidth w)
width_prop w (inl a) (inl b) = let one : IsProp (w ≡ 16) = hlevel props in ap inl (one a b)
width_prop w (inl a) (inr b) = absurd (omega arith)
width_prop w (inr a) (inl b) = absurd (omega arith)
width_prop w (inr a) (inr b) = let one : IsProp (w ≡ 32) = hlevel props in ap inr (one a b)

pub width_of : (w : ℕ) → ∥ IsWidth w ∥₁ → IsWidth w
width_of w h = ∥∥₁_elim h (width_prop w) (λ x. x)
