-- The numbers of a tape are below their bound, and no more than were asked for.
use Rattle.std.proofs.Common.{◌≡◌, ℕ, ◌+◌, ◌<◌, ◌≤◌, Bool, true, false, ltb, List, [], ◌∷◌, length, Result, Ok, Err, All, refl, arith}
use Rattle.std.specs.Prelude.{IfOk}
use Rattle.std.specs.List.{AllByRecursion}
use Rattle.std.proofs.lemmas.Bool.{ltb-true}
use Rattle.std.proofs.lemmas.List.Elements.{All-from_recursion}
use Rattle.tv_word.specs.Numeral.{is_numeral, positional}
use Rattle.tv_tape.specs.declared.items.TapeFault.{TapeFault}
use Rattle.tv_tape.specs.declared.items.TapeFault.TheVariants.{BadItem, TooBig, TooMany}
use Rattle.tv_tape.specs.Tape.{◌>>=◌, given, items_of, number_of, numbers_of, tape_of}

bind_if : {A B : Type 0} (read : Result A TapeFault) (f : A → Result B TapeFault) (P : B → Type 0) → ((x : A) → read ≡ Ok x → IfOk (f x) P)
    → IfOk (read >>= f) P
bind_if (Ok x) f P h = h x refl
bind_if (Err fault) f P h = tt

given_if : {B : Type 0} (test : Bool) (fault : TapeFault) (f : Unit {0} → Result B TapeFault) (P : B → Type 0) → (test ≡ true → IfOk (f tt) P)
    → IfOk (given test fault >>= f) P
given_if true fault f P h = h refl
given_if false fault f P h = tt

known : {A : Type 0} (read : Result A TapeFault) (P : A → Type 0) (x : A) → read ≡ Ok x → IfOk read P → P x
known (Ok y) P x is h = let same : y ≡ x = cc in rw (← same) h
known (Err fault) P x is h = cc

number_below : (below at : ℕ) (item : List ℕ) → IfOk (number_of below at item) (λ number. number < below)
number_below below at item =
    given_if (is_numeral 10 item) (BadItem at) _ (λ number. number < below) (λ _.
    given_if (ltb (positional 10 item) below) (TooBig at) _ (λ number. number < below) (λ test.
    ltb-true (positional 10 item) below test))

numbers_below : (below most at : ℕ) (items : List (List ℕ)) → IfOk (numbers_of below most at items) (AllByRecursion (λ number. number < below))
unfolding numbers_of
numbers_below below most at [] = tt
numbers_below below most at (item ∷ items) =
    given_if (ltb at most) (TooMany most) _ (AllByRecursion (λ number. number < below)) (λ _.
    bind_if (number_of below at item) _ (AllByRecursion (λ number. number < below)) (λ number is.
    bind_if (numbers_of below most (at + 1) items) _ (AllByRecursion (λ number. number < below)) (λ others are. (
      known (number_of below at item) (λ number. number < below) number is (number_below below at item),
      known (numbers_of below most (at + 1) items) (AllByRecursion (λ number. number < below)) others are (numbers_below below most (at + 1) items),
    ))))

by_index : (read : Result (List ℕ) TapeFault) (below : ℕ) → IfOk read (AllByRecursion (λ number. number < below)) → IfOk read (All (λ number. number < below))
by_index (Ok numbers) below h = All-from_recursion (λ number. number < below) numbers h
by_index (Err fault) below h = tt

pub all_below : (text : List ℕ) (below most : ℕ) → IfOk (tape_of text below most) (All (λ number. number < below))
unfolding tape_of
all_below text below most = by_index (numbers_of below most 0 (items_of text)) below (numbers_below below most 0 (items_of text))

count : (below most at : ℕ) (items : List (List ℕ)) → at ≤ most → IfOk (numbers_of below most at items) (λ numbers. at + length numbers ≤ most)
unfolding numbers_of
count below most at [] room = omega arith
count below most at (item ∷ items) room =
    given_if (ltb at most) (TooMany most) _ (λ numbers. at + length numbers ≤ most) (λ test.
    bind_if (number_of below at item) _ (λ numbers. at + length numbers ≤ most) (λ number _.
    bind_if (numbers_of below most (at + 1) items) _ (λ numbers. at + length numbers ≤ most) (λ others are.
    let few = ltb-true at most test in
    let rest = known (numbers_of below most (at + 1) items) (λ numbers. at + 1 + length numbers ≤ most) others are
    (count below most (at + 1) items (omega (arith, few))) in
    omega (arith, rest))))

pub at_most : (text : List ℕ) (below most : ℕ) → IfOk (tape_of text below most) (λ numbers. length numbers ≤ most)
unfolding tape_of
at_most text below most = from_zero (numbers_of below most 0 (items_of text)) (count below most 0 (items_of text) (omega arith))
  where
    from_zero : (read : Result (List ℕ) TapeFault) → IfOk read (λ numbers. 0 + length numbers ≤ most) → IfOk read (λ numbers. length numbers ≤ most)
    from_zero (Ok numbers) h = omega (arith, h)
    from_zero (Err fault) h = tt
