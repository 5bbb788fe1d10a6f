-- Permutations of the places below a number.
use Rattle.std.specs.Prelude.{ℕ, IsPermutation}
use Rattle.tv_stages.specs.Stages.{places}

-- p is a permutation of the places below n
abbrev pub PermutesPlaces : ℕ → (ℕ → ℕ) → Type 0
PermutesPlaces n p = IsPermutation (places n (λ i. i)) (places n p)
