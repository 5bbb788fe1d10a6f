-- A list that goes through another one, an element at a time.
use Rattle.tv_core.proofs.Common.{◌≡◌, ◌≢◌, ◌+◌, List, [], ◌∷◌, ◌++◌, refl, sym, ◌∙◌, ap, arith, append_assoc}
use Rattle.tv_core.proofs.Common.{append-nil, drop, ℕ, zero, suc, ◌<◌, ap₂, Bool, true, false, ◌==◌, length, map, nat_tests}
use Rattle.std.specs.Bool.{Decides}
use Rattle.std.specs.Prelude.{◌&&◌, not}
use Rattle.std.proofs.lemmas.List.{append_cancel_left}

module _ {X : Type 0} where
  -- the element that comes next
  pub next_same : (list left all : List X) (x : X) → list ++ left ≡ all → left ≡ x ∷ drop 1 left → (list ++ x ∷ []) ++ drop 1 left ≡ all
  next_same list left all x is here = append_assoc list (x ∷ []) (drop 1 left) ∙ ap (λ l. list ++ l) (sym here) ∙ is

  -- another one
  pub next_other : (list left all : List X) (x : X) → list ++ left ≡ all → left ≢ x ∷ drop 1 left
      → (rest : List X) → (list ++ x ∷ []) ++ rest ≢ all
  next_other list left all x is other rest same =
      let found : left ≡ x ∷ rest = append_cancel_left list left (x ∷ rest) (is ∙ sym same ∙ append_assoc list (x ∷ []) rest) in
      other (found ∙ ap (λ l. x ∷ l) (sym (ap (drop 1) found)))

  pub still_other : (list all : List X) (x : X) → ((rest : List X) → list ++ rest ≢ all) → (rest : List X) → (list ++ x ∷ []) ++ rest ≢ all
  still_other list all x other rest same = other (x ∷ rest) (sym (append_assoc list (x ∷ []) rest) ∙ same)

  -- a list is the whole where nothing is left
  pub whole : (list left all : List X) → list ++ left ≡ all → left ≡ [] → list ≡ all
  whole list left all is none = sym (append-nil list) ∙ ap (λ l. list ++ l) (sym none) ∙ is

  pub nothing_over : (list left all : List X) → list ++ left ≡ all → list ≡ all → left ≡ []
  nothing_over list left all is same = append_cancel_left list left [] (is ∙ sym same ∙ sym (append-nil list))

  pub not_whole : (list all : List X) → ((rest : List X) → list ++ rest ≢ all) → list ≢ all
  not_whole list all other same = other [] (append-nil list ∙ same)

  -- a list that begins with one element, where another may be sought
  pub first_is : (left tail : List X) (x y : X) → left ≡ x ∷ tail → (x ≡ y → left ≡ y ∷ drop 1 left) × (left ≡ y ∷ drop 1 left → x ≡ y)
  first_is left tail x y is = (λ e. is ∙ ap₂ (λ z l. z ∷ l) e (sym (ap (drop 1) is)), λ e. let f : x ∷ tail ≡ y ∷ drop 1 left = sym is ∙ e in cc)

  pub no_first : (left : List X) (y : X) → left ≡ [] → (false ≡ true → left ≡ y ∷ drop 1 left) × (left ≡ y ∷ drop 1 left → false ≡ true)
  no_first left y is = (λ e. absurd (cc), λ e. let f : [] ≡ y ∷ drop 1 left = sym is ∙ e in absurd (cc))

  -- the front of a list that is mapped from a place on
  module _ {Y : Type 0} (f : X → Y) (more : List Y) where
    pub drop_front : (xs : List X) (i : ℕ) → i < length xs → drop 1 (map f (drop i xs) ++ more) ≡ map f (drop (i + 1) xs) ++ more
    drop_front [] i h = absurd (omega arith)
    drop_front (x ∷ xs) zero h = refl
    drop_front (x ∷ xs) (suc i) h = let next : suc i + 1 ≡ suc (i + 1) = omega arith in rw next (drop_front xs i (omega arith))

    pub front_some : (xs : List X) (i : ℕ) → i < length xs → map f (drop i xs) ++ more ≢ []
    front_some [] i h = absurd (omega arith)
    front_some (x ∷ xs) zero h = λ e. absurd (cc)
    front_some (x ∷ xs) (suc i) h = front_some xs i (omega arith)

-- two terms are compared by their numbers
pub terms_decided : (x y : ℕ × ℕ) → Decides ((x.0 == y.0) && (x.1 == y.1)) (x ≡ y)
terms_decided x y = grind (arith, nat_tests)

pub off : (b : Bool) → not b ≡ true → b ≡ false
off true e = sym e
off false e = refl

pub on : (b : Bool) → not b ≡ false → b ≡ true
on true e = refl
on false e = sym e
