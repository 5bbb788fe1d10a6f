-- Terms added to a normal combination, one after another.
use Rattle.tv_core.proofs.Common.{◌≡◌, ℕ, ◌-◌, ◌^◌, [], ◌∷◌, ◌++◌, ◌∙◌, ap, append_assoc, Combination, scaled, normal}
use Rattle.tv_core.proofs.Unique.{normal-front}
use Rattle.tv_core.specs.declared.field.TheConstants.{P}
use Rattle.tv_lines.specs.Predecessor.{less_above}

pub two_terms : (x y out : Combination) (t u : ℕ × ℕ) → y ≡ normal (x ++ t ∷ []) → out ≡ normal (y ++ u ∷ []) → out ≡ normal (x ++ t ∷ u ∷ [])
two_terms x y out t u first second =
    second ∙ ap (λ w. normal (w ++ u ∷ [])) first ∙ normal-front (x ++ t ∷ []) (u ∷ []) ∙ ap normal (append_assoc x (t ∷ []) (u ∷ []))

pub less_front : (x y z out : Combination) → y ≡ normal x → out ≡ less_above y z → out ≡ less_above x z
less_front x y z out first second = second ∙ ap (λ w. less_above w z) first ∙ normal-front x (scaled (P - 2 ^ 32) z)
