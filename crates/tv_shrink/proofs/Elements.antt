-- What holds of each element of a list.
use Rattle.tv_core.proofs.Common.{◌≡◌, true, false, ℕ, zero, suc, List, ◌∷◌, ◌++◌, get_or, set, []}
use Rattle.std.specs.List.{AllByRecursion}
use Rattle.std.proofs.lemmas.List.Elements.{recursion_from_All, All-from_recursion, All-push, All-set}

module _ {A : Type 0} (R : A → Type 0) where
  -- at a place, or of what stands for one past the end
  pub each_at : (xs : List A) (i : ℕ) (d : A) → R d → AllByRecursion R xs → R (get_or xs i d)
  each_at [] i d none h = none
  each_at (x ∷ xs) zero d none h = h.0
  each_at (x ∷ xs) (suc i) d none h = each_at xs i d none h.1

  -- once an element was changed, or put after the others
  pub each_set : (xs : List A) (i : ℕ) (x : A) → R x → AllByRecursion R xs → AllByRecursion R (set xs i x)
  each_set xs i x here h = recursion_from_All R (set xs i x) (All-set R xs i x here (All-from_recursion R xs h))

  pub each_pushed : (xs : List A) (x : A) → R x → AllByRecursion R xs → AllByRecursion R (xs ++ x ∷ [])
  each_pushed xs x here h = recursion_from_All R (xs ++ x ∷ []) (All-push R xs x (All-from_recursion R xs h) here)

-- and what follows from it
pub each_weaker : {A : Type 0} (R S : A → Type 0) → ((x : A) → R x → S x) → (xs : List A) → AllByRecursion R xs → AllByRecursion S xs
each_weaker R S weaker [] h = tt
each_weaker R S weaker (x ∷ xs) h = (weaker x h.0, each_weaker R S weaker xs h.1)

-- a test does not answer both ways
pub never : false ≡ true → ⊥
never e = cc
