-- Words of a line: one or more of the bytes that names, registers and numbers are made of.
use Rattle.std.proofs.Common.{◌≡◌, ℕ, ◌<◌, ◌==◌, nat_le, Bool, true, false, ◌&&◌, ◌||◌, List, [], ◌∷◌, length, slice_index, refl, ap, arith}
use Rattle.std.proofs.lemmas.Bool.{and_parts, ne_eqb}
use Rattle.std.proofs.lemmas.Bool.Decides.{nat_tests}
use Rattle.std.proofs.lemmas.List.Elements.{All-weaker}
use Rattle.std.proofs.lemmas.List.Sums.{AllPass-from_list_all}
use Rattle.std.specs.List.{All, AllByRecursion, list_all}
use Rattle.tv_asm.specs.Line.{is_text}
use Rattle.tv_asm.specs.Text.{is_blank}

-- `.`, a digit or a lower-case letter
abbrev pub is_word_byte : ℕ → Bool
is_word_byte c = c == 46 || (nat_le 48 c && nat_le c 57) || (nat_le 97 c && nat_le c 122)

-- the bytes of a line: those of its words, spaces and commas
abbrev pub is_line_byte : ℕ → Bool
is_line_byte c = c == 32 || c == 44 || is_word_byte c

pub record IsWord (text : List ℕ) : Type 0 where
  pub some : 0 < length text
  pub bytes : list_all is_word_byte text ≡ true

abbrev pub AreWords : List (List ℕ) → Type 0
AreWords texts = AllByRecursion IsWord texts

-- a byte that passes a test is none that fails it
pub apart : (p : ℕ → Bool) (c d : ℕ) → p c ≡ true → p d ≡ false → (c == d) ≡ false
apart p c d passes fails = ne_eqb c d (λ e. cc (ap p e))

pub apart_from : (p : ℕ → Bool) (c d : ℕ) → p c ≡ true → p d ≡ false → (d == c) ≡ false
apart_from p c d passes fails = ne_eqb d c (λ e. cc (ap p e))

pub none_passes : (p q : ℕ → Bool) → ((c : ℕ) → p c ≡ true → q c ≡ false) → (xs : List ℕ) → list_all p xs ≡ true → All (λ c. q c ≡ false) xs
none_passes p q f xs h =
    All-weaker (λ c. p c ≡ true) (λ c. q c ≡ false) f xs (AllPass-from_list_all p xs h)

-- no byte of a word is blank
pub word-not_blank : (c : ℕ) → is_word_byte c ≡ true → is_blank c ≡ false
word-not_blank c h = rw (apart is_word_byte c 32 h refl, apart is_word_byte c 9 h refl) refl

-- the bytes of a line are text
pub line-is_text : (c : ℕ) → is_line_byte c ≡ true → is_text c ≡ true
line-is_text c h = grind (arith, nat_tests)

pub word-line : (c : ℕ) → is_word_byte c ≡ true → is_line_byte c ≡ true
word-line c h = grind (arith, nat_tests)

-- a word's first byte
pub first-word : (text : List ℕ) → IsWord text → is_word_byte (slice_index text 0) ≡ true
first-word [] h = absurd (omega (arith, h.some))
first-word (c ∷ cs) h = (and_parts (is_word_byte c) (list_all is_word_byte cs) h.bytes).0
