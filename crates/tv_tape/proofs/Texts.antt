-- The text of words, read again.
use Rattle.std.proofs.Common.{◌≡◌, ℕ, ◌+◌, ◌^◌, ◌<◌, ◌≤◌, ltb, true, false, List, [], ◌∷◌, length, map, Ok, All, codes, decimal, refl, ap, ◌∙◌, append_assoc}
use Rattle.std.proofs.Common.{arith}
use Rattle.std.proofs.lemmas.Bool.{lt-ltb}
use Rattle.std.proofs.lemmas.Bool.Decides.{nat_tests}
use Rattle.std.proofs.lemmas.List.Elements.{All-head, All-tail, All-weaker}
use Rattle.std.proofs.lemmas.List.Splits.{slice_split_at}
use Rattle.std.proofs.lemmas.List.Sums.{AllPass-from_list_all}
use Rattle.std.specs.List.{filter}
use Rattle.tv_word.proofs.DecimalLemmas.{is_decimal_byte, IsDecimal-decimal, IsDecimal-numeral}
use Rattle.tv_tape.specs.Tape.{is_separator, items_of, number_of, numbers_of, tape_of, text_of}

no_separator : (c : ℕ) → is_decimal_byte c ≡ true → is_separator c ≡ false
no_separator c h = grind (arith, nat_tests)

-- words below a bound that decimals are known for
abbrev AreBelow : ℕ → List ℕ → Type 0
AreBelow below words = All (λ word. word < below) words

-- the items of such a text are its decimals
items-text : (below : ℕ) → below ≤ 2 ^ 64 → (words : List ℕ) → AreBelow below words → items_of (text_of words) ≡ map decimal words
items-text below wide [] h = refl
items-text below wide (word ∷ more) h =
    let fits : word < 2 ^ 64 = omega (arith, All-head (λ w. w < below) word more h) in
    let d = IsDecimal-decimal word fits in
    let rest = text_of more in
    let whole : All (λ c. is_separator c ≡ false) (decimal word) =
    All-weaker (λ c. is_decimal_byte c ≡ true) (λ c. is_separator c ≡ false) no_separator (decimal word)
    (AllPass-from_list_all is_decimal_byte (decimal word) d.bytes) in
    ap items_of (append_assoc (decimal word) (codes "\n") rest)
    ∙ ap (filter (λ item. ltb 0 (length item))) (slice_split_at is_separator (decimal word) 10 rest whole refl)
    ∙ rw (lt-ltb 0 (length (decimal word)) d.some) (ap (λ items. decimal word ∷ items) (items-text below wide more (All-tail (λ w. w < below) word more h)))

-- a decimal is its number
number-decimal : (below at word : ℕ) → below ≤ 2 ^ 64 → word < below → number_of below at (decimal word) ≡ Ok word
number-decimal below at word wide small =
    let fits : word < 2 ^ 64 = omega arith in
    let d = IsDecimal-decimal word fits in
    rw (IsDecimal-numeral word (decimal word) d, d.value, lt-ltb word below small) refl

numbers-decimals : (below most at : ℕ) → below ≤ 2 ^ 64 → (words : List ℕ) → AreBelow below words → at + length words ≤ most
    → numbers_of below most at (map decimal words) ≡ Ok words
unfolding numbers_of
numbers-decimals below most at wide [] h room = refl
numbers-decimals below most at wide (word ∷ more) h room =
    let here = number-decimal below at word wide (All-head (λ w. w < below) word more h) in
    let after = numbers-decimals below most (at + 1) wide more (All-tail (λ w. w < below) word more h) (omega arith) in
    rw (lt-ltb at most (omega arith), here, after) refl

pub comes_back : (words : List ℕ) (below most : ℕ) → below ≤ 2 ^ 64 → All (λ word. word < below) words → length words ≤ most
    → tape_of (text_of words) below most ≡ Ok words
unfolding tape_of
comes_back words below most wide small room =
    ap (numbers_of below most 0) (items-text below wide words small) ∙ numbers-decimals below most 0 wide words small (omega arith)
