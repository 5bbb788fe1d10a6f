-- The number that digits represent, read from the left.
use Rattle.std.proofs.Common.{◌≡◌, ℕ, ◌+◌, ◌*◌, ◌^◌, ◌<◌, ◌≤◌, true, List, [], ◌∷◌, ◌++◌, length, get_or, take, drop, Some, None, refl, sym, ap, ◌∙◌, arith}
use Rattle.std.proofs.Common.{length-append, add-zero}
use Rattle.std.proofs.lemmas.Bool.{lt-ltb}
use Rattle.std.proofs.lemmas.Bool.Decides.{nat_tests}
use Rattle.std.proofs.lemmas.List.{take_more, take_all, take-append-drop}
use Rattle.std.proofs.lemmas.List.Folds.{list_all_more}
use Rattle.std.proofs.lemmas.Nat.{pow-add}
use Rattle.std.proofs.Math.Nat.{mul-le-mul_left, one-le-pow, pow-zero, pow-succ', mul-one}
use Rattle.std.specs.Char.{digit_value, is_digit}
use Rattle.std.specs.List.{list_all}
use Rattle.tv_word.specs.Numeral.{positional, numeral}

pub positional-append : (base : ℕ) (xs ys : List ℕ) → positional base (xs ++ ys) ≡ positional base xs * base ^ length ys + positional base ys
positional-append base [] ys = grind arith
positional-append base (x ∷ xs) ys =
    grind (arith, positional-append base xs ys, length-append xs ys, pow-add base (length xs) (length ys))

last : (base n d : ℕ) → n * base ^ 1 + (d * base ^ 0 + 0) ≡ n * base + d
last base n d = rw (pow-succ' base 0, pow-zero, mul-one, mul-one, add-zero) refl

-- a digit after digits
pub is_numeral_more : (base : ℕ) (text : List ℕ) (i : ℕ) → i < length text → digit_value (get_or text i 0) < base
    → list_all (λ c. is_digit c base) (take i text) ≡ true → list_all (λ c. is_digit c base) (take (i + 1) text) ≡ true
is_numeral_more base text i l digit h =
    list_all_more (λ c. is_digit c base) text i 0 l ∙ rw (h, lt-ltb _ _ digit) refl

-- digits to the end, below the bound
pub numeral_all : (base bound : ℕ) (text : List ℕ) (i : ℕ) → 0 < length text → length text ≤ i → list_all (λ c. is_digit c base) (take i text) ≡ true
    → positional base (take i text) < bound → numeral base bound text ≡ Some (positional base (take i text))
numeral_all base bound text i some end digits below =
    let e = take_all i text end in
    let digits' = rw e at digits in
    let below' = rw e at below in
    rw (e, digits', lt-ltb _ _ some, lt-ltb _ _ below') refl

-- one more digit
pub positional_more : (base : ℕ) (text : List ℕ) (i : ℕ) → i < length text
    → positional base (take (i + 1) text) ≡ positional base (take i text) * base + digit_value (get_or text i 0)
positional_more base text i h =
    ap (positional base) (take_more text i 0 h) ∙ positional-append base (take i text) (get_or text i 0 ∷ []) ∙ last base _ (digit_value (get_or text i 0))

-- more digits never represent less
pub positional-take-le : (base : ℕ) (text : List ℕ) (i : ℕ) → 1 ≤ base → positional base (take i text) ≤ positional base text
positional-take-le base text i h =
    let whole : positional base text ≡ positional base (take i text) * base ^ length (drop i text) + positional base (drop i text) =
    ap (positional base) (sym (take-append-drop i text)) ∙ positional-append base (take i text) (drop i text) in
    let grows : positional base (take i text) * 1 ≤ positional base (take i text) * base ^ length (drop i text) =
    mul-le-mul_left (positional base (take i text)) (one-le-pow (length (drop i text)) base h) in
    omega arith

-- digits that have passed the bound represent no number below it, whatever follows
pub numeral_past : (base bound : ℕ) (text : List ℕ) (i : ℕ) → 1 ≤ base → i < length text
    → bound ≤ positional base (take i text) * base + digit_value (get_or text i 0) → numeral base bound text ≡ None
numeral_past base bound text i h l past =
    let more = positional_more base text i l in
    let le = positional-take-le base text (i + 1) h in
    let not_below : bound ≤ positional base text = omega arith in
    grind (arith, nat_tests)
