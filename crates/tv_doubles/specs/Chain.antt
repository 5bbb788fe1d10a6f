-- Double lines of which each is checked against the one at its place in a permutation.
use Rattle.std.specs.Prelude.{◌≡◌, ◌≢◌, ◌⊎◌, ℕ, ◌^◌, ◌<◌, ◌≤◌}
use Rattle.tv_doubles.specs.Places.{PermutesPlaces}
use Rattle.tv_doubles.specs.Doubles.{DoubleLine, Succeeds, HonestDoubles, no_words}

-- a fixed place: a line that leaves the pair (0, 0) of a double cell that no earlier line accesses
pub record Stays (p : ℕ → ℕ) (line : ℕ → DoubleLine) (i : ℕ) : Type 0 where
  pub itself : p i ≡ i
  pub old : (line i).old ≡ no_words
  pub new : (line i).new ≡ no_words
  pub first : (k : ℕ) → k < i → (line k).cell ≢ (line i).cell

-- p is a permutation of the places below n; the successor of each but one, a, is at its place in p, or it stays; and what
-- p has for a begins at (0, 0)
pub record Chained (n a : ℕ) (p : ℕ → ℕ) (line : ℕ → DoubleLine) : Type 0 where
  pub few : n ≤ 2 ^ 20
  pub exempt : a < n
  pub permutes : PermutesPlaces n p
  pub begins : (line (p a)).old ≡ no_words
  pub each : (i : ℕ) → i < n → i ≢ a → Succeeds (line i) i (line (p i)) (p i) ⊎ Stays p line i

-- ---- the law
abbrev pub ChainIsHonest : Type 0
ChainIsHonest = (n a : ℕ) (p : ℕ → ℕ) (line : ℕ → DoubleLine) → Chained n a p line → HonestDoubles n line
