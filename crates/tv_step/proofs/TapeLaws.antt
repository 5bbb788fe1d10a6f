-- What is left of a tape of words.
use Rattle.tv_core.proofs.Common.{◌≡◌, ℕ, suc, List, [], ◌∷◌, Option, Some, None, All, refl, sym, subst, ◌∙◌, arith}
use Rattle.std.proofs.Common.{IfSome}

pub all_left : (P : ℕ → Type 0) (old new : List ℕ) (r : Option ℕ) → IfSome r (λ word. old ≡ word ∷ new) → (r ≡ None → (old ≡ []) × (new ≡ [])) → All P old
    → All P new
all_left P old new None some none all = subst (λ l. All P l) ((none refl).0 ∙ sym (none refl).1) all
all_left P old new (Some x) some none all =
    let whole : All P (x ∷ new) = subst (λ l. All P l) some all in
    λ k d h. whole (suc k) d (omega (arith, h))
