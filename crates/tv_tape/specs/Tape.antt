-- The numbers that a tape's text holds, or its first fault.
use Rattle.std.specs.Prelude.{◌≡◌, ℕ, ◌+◌, ◌<◌, Bool, List, [], ◌∷◌, ◌++◌, length, filter, codes, decimal, Some, slice_get, Result, Ok, Err}
use Rattle.std.specs.Prelude.{nat_lt, ◌==◌, ◌||◌, if◌then◌else◌}
use Rattle.std.specs.List.{flat_map, slice_split}
use Rattle.tv_word.specs.Numeral.{is_numeral, positional}
use Rattle.tv_tape.specs.declared.items.TapeFault.{TapeFault}
use Rattle.tv_tape.specs.declared.items.TapeFault.TheVariants.{BadItem, TooBig, TooMany}

infixl 10 ◌>>=◌
abbrev pub ◌>>=◌ : {A B : Type 0} → Result A TapeFault → (A → Result B TapeFault) → Result B TapeFault
(Ok x) >>= f = f x
(Err fault) >>= f = Err fault

-- goes on where a test holds
abbrev pub given : Bool → TapeFault → Result (Unit {0}) TapeFault
given test fault = if test then Ok tt else Err fault

-- space, tab, carriage return or line feed
abbrev pub is_separator : ℕ → Bool
is_separator byte = (byte == 32) || (byte == 9) || (byte == 13) || (byte == 10)

-- the longest runs of other bytes, in order
abbrev pub items_of : List ℕ → List (List ℕ)
items_of text = filter (λ item. nat_lt 0 (length item)) (slice_split is_separator text)

-- the number of an item, the one at this place: it is all digits, and below the bound
abbrev pub number_of : ℕ → ℕ → List ℕ → Result ℕ TapeFault
number_of below at item = do
  _ ← given (is_numeral 10 item) (BadItem at)
  _ ← given (nat_lt (positional 10 item) below) (TooBig at)
  Ok (positional 10 item)

-- the numbers of the items from a place on: each stands below place `most`, and is a number
unfoldable pub numbers_of : ℕ → ℕ → ℕ → List (List ℕ) → Result (List ℕ) TapeFault
numbers_of below most at [] = Ok []
numbers_of below most at (item ∷ items) = do
  _ ← given (nat_lt at most) (TooMany most)
  number ← number_of below at item
  others ← numbers_of below most (at + 1) items
  Ok (number ∷ others)

-- the numbers of a text: at most `most`, and each below `below`
unfoldable pub tape_of : List ℕ → ℕ → ℕ → Result (List ℕ) TapeFault
tape_of text below most = numbers_of below most 0 (items_of text)

-- a number of the text is kept: an item is a number below the bound, and its place is below `most`
pub record KeepsNumber (text : List ℕ) (below most : ℕ) : Type 0 where
  pub at : ℕ
  pub item : List ℕ
  pub number : ℕ
  pub few : at < most
  pub there : slice_get (items_of text) at ≡ Some item
  pub is : number_of below at item ≡ Ok number

-- the text of words: each in decimal, and a line feed
abbrev pub text_of : List ℕ → List ℕ
text_of words = flat_map (λ word. decimal word ++ codes "\n") words
