-- What is found of a tape's text is never an allocation failure.
use Rattle.tv_core.proofs.Common.{◌≡◌, ◌≢◌, ◌+◌, ℕ, Bool, true, false, nat_lt, List, [], ◌∷◌, Result, Ok, Err}
use Rattle.tv_tape.specs.Tape.{◌>>=◌, given, items_of, numbers_of, tape_of}
use Rattle.tv_tape.specs.declared.items.TapeFault.{TapeFault}
use Rattle.tv_tape.specs.declared.items.TapeFault.TheVariants.{BadItem, TooBig, TooMany, Memory}
use Rattle.tv_word.specs.Numeral.{is_numeral, positional}

-- an item and the others, by the tests that it passes
item_wants : (most at number : ℕ) (few plain small : Bool) (others : Result (List ℕ) TapeFault) → others ≢ Err Memory →
    (given few (TooMany most) >>= λ _. (given plain (BadItem at) >>= λ _. given small (TooBig at) >>= λ _. Ok number) >>= λ number. others >>= λ others. Ok
    (number ∷ others)) ≢ Err Memory
item_wants most at number false plain small others rest e = cc
item_wants most at number true false small others rest e = cc
item_wants most at number true true false others rest e = cc
item_wants most at number true true true (Ok numbers) rest e = cc
item_wants most at number true true true (Err fault) rest e = rest (let same : fault ≡ Memory = cc in cc)

items_want : (below most at : ℕ) (items : List (List ℕ)) → numbers_of below most at items ≢ Err Memory
unfolding numbers_of
items_want below most at [] = λ e. cc
items_want below most at (item ∷ items) =
    item_wants most at (positional 10 item) (nat_lt at most) (is_numeral 10 item) (nat_lt (positional 10 item) below) (numbers_of below most (at + 1) items)
    (items_want below most (at + 1) items)

pub tape_wants : (below most : ℕ) (text : List ℕ) → tape_of text below most ≢ Err Memory
unfolding tape_of
tape_wants below most text = items_want below most 0 (items_of text)
