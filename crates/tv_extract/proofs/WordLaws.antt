-- Words at wires, one list after another, and what they are refused for.
use Rattle.tv_core.proofs.Common.{◌≡◌, ℕ, suc, ◌+◌, ◌-◌, ◌<◌, List, [], ◌∷◌, ◌++◌, refl, ap, ◌∙◌, arith, add-one, Result, Ok, Err, range_with_len}
use Rattle.tv_core.proofs.BelowLaws.{range-more, range-append}
use Rattle.std.specs.Prelude.{IfErr, IsErrAnd}
use Rattle.tv_extract.specs.Extraction.{word_at, words_at, fault_of, IsFaultOf}
use Rattle.tv_extract.specs.declared.run.ExtractFault.{ExtractFault}
use Rattle.tv_step.specs.declared.not_run.NotRun.{NotRun}

-- what is refused for a reason is refused for its fault
is_fault : {A : Type 0} (due : Result A NotRun) (why : NotRun) → due ≡ Err why → IsFaultOf due (fault_of why)
is_fault due (NotRun.WireCount has wants) is = is
is_fault due (NotRun.WideWire at) is = is
is_fault due (NotRun.NotARun end) is = is

pub refused_for : {A B : Type 0} (due : Result A NotRun) (why : NotRun) (result : Result B ExtractFault) → IsErrAnd result (λ fault. fault ≡ fault_of why)
    → due ≡ Err why → IfErr result (IsFaultOf due)
refused_for due why (Ok x) ends is = tt
refused_for due why (Err fault) ends is = rw ends (is_fault due why is)

-- what is known of the rest of a list
abbrev Then : ℕ → List ℕ → List ℕ → List ℕ → List ℕ → Type 0
Then w z xs ys more = (rest : List ℕ) → words_at w z xs ≡ Ok rest → words_at w z (xs ++ ys) ≡ Ok (rest ++ more)

abbrev Refused : ℕ → List ℕ → List ℕ → List ℕ → NotRun → Type 0
Refused w z xs ys fault = (rest : List ℕ) → words_at w z xs ≡ Ok rest → words_at w z (xs ++ ys) ≡ Err fault

pub words_then : (w : ℕ) (z xs ys words more : List ℕ) → words_at w z xs ≡ Ok words → words_at w z ys ≡ Ok more → words_at w z (xs ++ ys) ≡ Ok (words ++ more)
words_then w z [] ys words more e f = by_front words e
  where
    by_front : (front : List ℕ) → words_at w z [] ≡ Ok front → words_at w z ys ≡ Ok (front ++ more)
    by_front [] e = f
    by_front (v ∷ rest) e = absurd cc
words_then w z (x ∷ xs) ys words more e f = by_word (word_at w z x) refl (λ rest rests. words_then w z xs ys rest more rests f)
  where
    by_words : (v : ℕ) (rest : Result (List ℕ) NotRun) → word_at w z x ≡ Ok v → words_at w z xs ≡ rest → Then w z xs ys more
        → words_at w z (x ∷ xs ++ ys) ≡ Ok (words ++ more)
    by_words v (Ok rest) is rests later =
        let whole : words_at w z (x ∷ xs) ≡ Ok (v ∷ rest) = rw (is, rests) refl in
        let same : v ∷ rest ≡ words = cc in
        rw (is, later rest rests) (ap (λ l. Ok (l ++ more)) same)
    by_words v (Err fault) is rests later =
        let whole : words_at w z (x ∷ xs) ≡ Err fault = rw (is, rests) refl in
        absurd cc

    by_word : (first : Result ℕ NotRun) → word_at w z x ≡ first → Then w z xs ys more → words_at w z (x ∷ xs ++ ys) ≡ Ok (words ++ more)
    by_word (Ok v) is later = by_words v (words_at w z xs) is refl later
    by_word (Err fault) is later =
        let whole : words_at w z (x ∷ xs) ≡ Err fault = rw is refl in
        absurd cc

pub words_refused : (w : ℕ) (z xs ys : List ℕ) (wire : ℕ) (words : List ℕ) (fault : NotRun) → words_at w z xs ≡ Ok words → word_at w z wire ≡ Err fault
    → words_at w z (xs ++ wire ∷ ys) ≡ Err fault
words_refused w z [] ys wire words fault e refused = rw refused refl
words_refused w z (x ∷ xs) ys wire words fault e refused = by_word (word_at w z x) refl (λ rest rests. words_refused w z xs ys wire rest fault rests refused)
  where
    by_words : (v : ℕ) (rest : Result (List ℕ) NotRun) → word_at w z x ≡ Ok v → words_at w z xs ≡ rest → Refused w z xs (wire ∷ ys) fault
        → words_at w z (x ∷ xs ++ wire ∷ ys) ≡ Err fault
    by_words v (Ok rest) is rests later = rw (is, later rest rests) refl
    by_words v (Err other) is rests later =
        let whole : words_at w z (x ∷ xs) ≡ Err other = rw (is, rests) refl in
        absurd cc

    by_word : (first : Result ℕ NotRun) → word_at w z x ≡ first → Refused w z xs (wire ∷ ys) fault → words_at w z (x ∷ xs ++ wire ∷ ys) ≡ Err fault
    by_word (Ok v) is later = by_words v (words_at w z xs) is refl later
    by_word (Err other) is later =
        let whole : words_at w z (x ∷ xs) ≡ Err other = rw is refl in
        absurd cc

one_word : (w : ℕ) (z : List ℕ) (wire v : ℕ) → word_at w z wire ≡ Ok v → words_at w z (wire ∷ []) ≡ Ok (v ∷ [])
one_word w z wire v is = rw is refl

-- wires in a row
pub row_more : (w : ℕ) (z : List ℕ) (first n : ℕ) (words : List ℕ) (v : ℕ) → words_at w z (range_with_len first n) ≡ Ok words → word_at w z (first + n) ≡ Ok v
    → words_at w z (range_with_len first (n + 1)) ≡ Ok (words ++ v ∷ [])
row_more w z first n words v e is =
    ap (λ m. words_at w z (range_with_len first m)) (add-one n)
    ∙ ap (words_at w z) (range-more first n)
    ∙ words_then w z (range_with_len first n) ((first + n) ∷ []) words (v ∷ []) e (one_word w z (first + n) v is)

pub row_refused : (w : ℕ) (z : List ℕ) (first n i : ℕ) (words : List ℕ) (fault : NotRun) → i < n → words_at w z (range_with_len first i) ≡ Ok words
    → word_at w z (first + i) ≡ Err fault → words_at w z (range_with_len first n) ≡ Err fault
row_refused w z first n i words fault within e refused =
    let more : n ≡ i + suc (n - i - 1) = omega arith in
    ap (λ m. words_at w z (range_with_len first m)) more
    ∙ ap (words_at w z) (range-append first i (suc (n - i - 1)))
    ∙ words_refused w z (range_with_len first i) (range_with_len (first + i + 1) (n - i - 1)) (first + i) words fault e refused

pub ruleset row_laws = (row_more, row_refused, refused_for)
