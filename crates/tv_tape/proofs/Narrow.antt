-- The numbers of a tape are the words that they are read as.
use Rattle.std.proofs.Common.{◌≡◌, ℕ, ◌%◌, ◌<◌, ◌≤◌, List, [], ◌∷◌, length, map, All, Ok, refl, mod-eq_of_lt, arith}
use Rattle.std.specs.List.{AllByRecursion}
use Rattle.std.proofs.lemmas.List.Elements.{recursion_from_All}
use Rattle.tv_tape.specs.Tape.{tape_of}
use Rattle.tv_tape.proofs.Range.{all_below, at_most}

same : (below size : ℕ) (numbers : List ℕ) → below ≤ size → AllByRecursion (λ n. n < below) numbers → map (λ n. n % size) numbers ≡ numbers
same below size [] fits all = refl
same below size (n ∷ numbers) fits all = let less = all.0 in let fit : n < size = omega (arith, less) in
    rw (mod-eq_of_lt fit, same below size numbers fits all.1) refl

pub numbers_below : (text numbers : List ℕ) (below most : ℕ) → tape_of text below most ≡ Ok numbers → All (λ n. n < below) numbers
numbers_below text numbers below most is = rw is at (all_below text below most)

pub numbers_few : (text numbers : List ℕ) (below most : ℕ) → tape_of text below most ≡ Ok numbers → length numbers ≤ most
numbers_few text numbers below most is = rw is at (at_most text below most)

pub residues_same : (text numbers : List ℕ) (below most size : ℕ) → below ≤ size → tape_of text below most ≡ Ok numbers → map (λ n. n % size) numbers ≡ numbers
residues_same text numbers below most size fits is = same below size numbers fits
    (recursion_from_All (λ n. n < below) numbers (numbers_below text numbers below most is))
