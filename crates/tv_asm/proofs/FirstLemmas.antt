-- What stands before the first element that passes, and a list that is walked by its places.
use Rattle.std.proofs.Common.{◌≡◌, ℕ, zero, suc, ◌+◌, ◌<◌, ◌≤◌, Bool, true, false, ◌||◌, List, [], ◌∷◌, ◌++◌, length, take, drop, refl, sym, ap, ◌∙◌, arith}
use Rattle.std.proofs.Common.{add-one}
use Rattle.std.specs.List.{before_first, list_any}

one-add : (n : ℕ) → 1 + n ≡ suc n
one-add n = omega arith

before_first-cons_yes : {X : Type 0} (p : X → Bool) (x : X) (xs : List X) → p x ≡ true → before_first p (x ∷ xs) ≡ []
before_first-cons_yes p x xs h = rw h refl

before_first-cons_no : {X : Type 0} (p : X → Bool) (x : X) (xs : List X) → p x ≡ false → before_first p (x ∷ xs) ≡ x ∷ before_first p xs
before_first-cons_no p x xs h = rw (h, one-add) refl

any_step : {X : Type 0} (p : X → Bool) (x : X) (xs ys : List X) (b : Bool) → p x ≡ b → (b || list_any p xs) ≡ true
    → (list_any p xs ≡ true → before_first p (xs ++ ys) ≡ before_first p xs) → before_first p (x ∷ (xs ++ ys)) ≡ before_first p (x ∷ xs)
any_step p x xs ys true e h more = before_first-cons_yes p x (xs ++ ys) e ∙ sym (before_first-cons_yes p x xs e)
any_step p x xs ys false e h more =
    before_first-cons_no p x (xs ++ ys) e ∙ ap (λ l. x ∷ l) (more h) ∙ sym (before_first-cons_no p x xs e)

-- where one passes, what follows says nothing
pub before_first-append_any : {X : Type 0} (p : X → Bool) (xs ys : List X) → list_any p xs ≡ true → before_first p (xs ++ ys) ≡ before_first p xs
before_first-append_any p [] ys h = cc
before_first-append_any p (x ∷ xs) ys h = any_step p x xs ys (p x) refl h (before_first-append_any p xs ys)

none_step : {X : Type 0} (p : X → Bool) (x : X) (xs ys : List X) (b : Bool) → p x ≡ b → (b || list_any p xs) ≡ false
    → (list_any p xs ≡ false → before_first p (xs ++ ys) ≡ xs) → before_first p (x ∷ (xs ++ ys)) ≡ x ∷ xs
none_step p x xs ys true e h more = cc
none_step p x xs ys false e h more = before_first-cons_no p x (xs ++ ys) e ∙ ap (λ l. x ∷ l) (more h)

-- where none passes, the next that passes is the first
pub before_first-append_none : {X : Type 0} (p : X → Bool) (xs : List X) (y : X) (ys : List X) → list_any p xs ≡ false → p y ≡ true
    → before_first p (xs ++ y ∷ ys) ≡ xs
before_first-append_none p [] y ys h e = before_first-cons_yes p y ys e
before_first-append_none p (x ∷ xs) y ys h e =
    none_step p x xs (y ∷ ys) (p x) refl h (λ g. before_first-append_none p xs y ys g e)

-- the places of a list, from one to the next
pub drop_next : {X : Type 0} (xs : List X) (n : ℕ) (y : X) (ys : List X) → drop n xs ≡ y ∷ ys → drop (n + 1) xs ≡ ys
drop_next [] zero y ys h = cc
drop_next [] (suc n) y ys h = cc
drop_next (x ∷ xs) zero y ys h = cc
drop_next (x ∷ xs) (suc n) y ys h = rw add-one (rw add-one at (drop_next xs n y ys h))

pub take_next : {X : Type 0} (xs : List X) (n : ℕ) (y : X) (ys : List X) → drop n xs ≡ y ∷ ys → take (n + 1) xs ≡ take n xs ++ y ∷ []
take_next [] zero y ys h = cc
take_next [] (suc n) y ys h = cc
take_next (x ∷ xs) zero y ys h = cc
take_next (x ∷ xs) (suc n) y ys h = rw add-one (ap (λ l. x ∷ l) (rw add-one at (take_next xs n y ys h)))

pub length-take_next : {X : Type 0} (xs : List X) (n : ℕ) (y : X) (ys : List X) → drop n xs ≡ y ∷ ys → length (take n xs) ≡ n
length-take_next [] zero y ys h = refl
length-take_next [] (suc n) y ys h = cc
length-take_next (x ∷ xs) zero y ys h = refl
length-take_next (x ∷ xs) (suc n) y ys h = ap suc (length-take_next xs n y ys h)

short_step : {X : Type 0} (p : X → Bool) (x : X) (xs : List X) (b : Bool) → p x ≡ b → (b || list_any p xs) ≡ true
    → (list_any p xs ≡ true → length (before_first p xs) < length xs) → length (before_first p (x ∷ xs)) < suc (length xs)
short_step p x xs true e h more = rw (before_first-cons_yes p x xs e) (omega arith)
short_step p x xs false e h more = rw (before_first-cons_no p x xs e) (omega (arith, more h))

-- where one passes, what stands before it is shorter
pub length-before_first-lt : {X : Type 0} (p : X → Bool) (xs : List X) → list_any p xs ≡ true → length (before_first p xs) < length xs
length-before_first-lt p [] h = cc
length-before_first-lt p (x ∷ xs) h = short_step p x xs (p x) refl h (length-before_first-lt p xs)

long_step : {X : Type 0} (p : X → Bool) (x : X) (xs ys : List X) (b : Bool) → p x ≡ b → (b || list_any p xs) ≡ false
    → (list_any p xs ≡ false → length xs ≤ length (before_first p (xs ++ ys))) → suc (length xs) ≤ length (before_first p (x ∷ (xs ++ ys)))
long_step p x xs ys true e h more = cc
long_step p x xs ys false e h more = rw (before_first-cons_no p x (xs ++ ys) e) (omega (arith, more h))

-- where none passes, all of it stands before the first that does
pub length-before_first-ge : {X : Type 0} (p : X → Bool) (xs ys : List X) → list_any p xs ≡ false → length xs ≤ length (before_first p (xs ++ ys))
length-before_first-ge p [] ys h = omega arith
length-before_first-ge p (x ∷ xs) ys h = long_step p x xs ys (p x) refl h (length-before_first-ge p xs ys)
