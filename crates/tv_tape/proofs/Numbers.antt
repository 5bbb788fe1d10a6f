-- Reading the items of a tape one after the other, as a loop does.
use Rattle.std.proofs.Common.{◌≡◌, ℕ, ◌+◌, ◌<◌, ◌≤◌, true, false, ltb, List, [], ◌∷◌, ◌++◌, length, get_or, drop, Result, Ok, Err, refl, sym, ap, ◌∙◌}
use Rattle.std.proofs.Common.{append_assoc, add-one, drop-cons}
use Rattle.std.proofs.lemmas.Bool.{lt-ltb, le-ltb}
use Rattle.std.proofs.lemmas.List.{append-nil}
use Rattle.std.proofs.Math.ListN.{drop_of_length-le}
use Rattle.tv_tape.specs.declared.items.TapeFault.{TapeFault}
use Rattle.tv_tape.specs.declared.items.TapeFault.TheVariants.{TooMany}
use Rattle.tv_tape.specs.Tape.{◌>>=◌, given, number_of, numbers_of}

-- the numbers that were read, and those of the items that are still read
abbrev pub with_front : List ℕ → Result (List ℕ) TapeFault → Result (List ℕ) TapeFault
with_front front read = read >>= λ others. Ok (front ++ others)

pub reads_none : (read : Result (List ℕ) TapeFault) → with_front [] read ≡ read
reads_none (Ok others) = refl
reads_none (Err fault) = refl

regroup : (front : List ℕ) (n : ℕ) (read : Result (List ℕ) TapeFault)
    → with_front front (read >>= λ others. Ok (n ∷ others)) ≡ with_front (front ++ n ∷ []) read
regroup front n (Err fault) = refl
regroup front n (Ok others) = ap (λ ns. Ok ns) (sym (append_assoc front (n ∷ []) others))

next : (below most at : ℕ) (items : List (List ℕ)) (d : List ℕ) → at < length items →
    numbers_of below most at (drop at items)
    ≡ (given (ltb at most) (TooMany most) >>= λ _. number_of below at (get_or items at d) >>= λ number. numbers_of below most (at + 1)
    (drop (at + 1) items) >>= λ others. Ok (number ∷ others))
unfolding numbers_of
next below most at items d lt = rw (drop-cons items at d, add-one) refl

pub goes_on : (front : List ℕ) (below most at n : ℕ) (items : List (List ℕ)) (d : List ℕ) (total : Result (List ℕ) TapeFault) → at < length items → at < most →
    number_of below at (get_or items at d) ≡ Ok n → with_front front (numbers_of below most at (drop at items)) ≡ total →
    with_front (front ++ n ∷ []) (numbers_of below most (at + 1) (drop (at + 1) items)) ≡ total
goes_on front below most at n items d total lt few here so_far =
    let test : ltb at most ≡ true = lt-ltb at most few in
    let one : with_front front (numbers_of below most at (drop at items))
    ≡ with_front (front ++ n ∷ []) (numbers_of below most (at + 1) (drop (at + 1) items)) =
    rw (next below most at items d lt, test, here) (regroup front n (numbers_of below most (at + 1) (drop (at + 1) items))) in
    sym one ∙ so_far

pub stops : (front : List ℕ) (below most at : ℕ) (items : List (List ℕ)) (d : List ℕ) (fault : TapeFault) (total : Result (List ℕ) TapeFault)
    → at < length items → at < most →
    number_of below at (get_or items at d) ≡ Err fault → with_front front (numbers_of below most at (drop at items)) ≡ total → total ≡ Err fault
stops front below most at items d fault total lt few here so_far =
    let test : ltb at most ≡ true = lt-ltb at most few in
    let one : with_front front (numbers_of below most at (drop at items)) ≡ Err fault = rw (next below most at items d lt, test, here) refl in
    sym so_far ∙ one

pub too_many : (front : List ℕ) (below most at : ℕ) (items : List (List ℕ)) (d : List ℕ) (total : Result (List ℕ) TapeFault) → at < length items → most ≤ at →
    with_front front (numbers_of below most at (drop at items)) ≡ total → total ≡ Err (TooMany most)
too_many front below most at items d total lt full so_far =
    let test : ltb at most ≡ false = le-ltb at most full in
    let one : with_front front (numbers_of below most at (drop at items)) ≡ Err (TooMany most) = rw (next below most at items d lt, test) refl in
    sym so_far ∙ one

pub is_done : (front : List ℕ) (below most at : ℕ) (items : List (List ℕ)) (total : Result (List ℕ) TapeFault) → length items ≤ at →
    with_front front (numbers_of below most at (drop at items)) ≡ total → total ≡ Ok front
unfolding numbers_of
is_done front below most at items total le so_far =
    sym so_far ∙ ap (λ rest. with_front front (numbers_of below most at rest)) (drop_of_length-le items le) ∙ ap (λ ns. Ok ns) (append-nil front)
