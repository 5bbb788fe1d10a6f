-- Each double line's successor in address order, by a sort of the keys.
use Rattle.std.specs.Prelude.{◌≡◌, ◌≢◌, ℕ, ◌+◌, ◌%◌, ◌^◌, ◌<◌, ◌≤◌, ◌==◌, if◌then◌else◌, List, length, map}
use Rattle.tv_doubles.specs.Places.{PermutesPlaces}
use Rattle.tv_stages.specs.Stages.{places, IsReordering}
use Rattle.tv_doubles.specs.Rising.{rising, place_at, index_in}
use Rattle.tv_doubles.specs.Chain.{Chained}
use Rattle.tv_doubles.specs.Doubles.{DoubleLine, Succeeds, HonestDoubles, key, no_words}

-- where the line stands that comes first in address order, second, ..
abbrev pub address_order : ℕ → (ℕ → DoubleLine) → List ℕ
address_order n line = map (λ k. k % 2 ^ 20) (rising (places n (key line)))

-- the index after one of n, in a circle
abbrev pub index_after : ℕ → ℕ → ℕ
index_after n j = if j + 1 == n then 0 else j + 1

-- the number that stands after a number in a list; after the last stands the first
abbrev pub next_in : List ℕ → ℕ → ℕ
next_in order i = place_at order (index_after (length order) (index_in i order))

-- for each place that of its successor in address order; the successor of the last is the first
abbrev pub successor : ℕ → (ℕ → DoubleLine) → ℕ → ℕ
successor n line i = next_in (address_order n line) i

-- no line has a greater key than that at place a
abbrev pub IsGreatest : ℕ → (ℕ → DoubleLine) → ℕ → Type 0
IsGreatest n line a = (a < n) × ((i : ℕ) → i < n → key line i ≤ key line a)

-- ---- the laws
pub record SuccessorsAreRight : Type 0 where
  -- they are a permutation of the places, by their images and by its counts
  pub permutes : (n : ℕ) (line : ℕ → DoubleLine) → n ≤ 2 ^ 20 → IsReordering n (successor n line)
  pub moved : (n : ℕ) (line : ℕ → DoubleLine) → n ≤ 2 ^ 20 → PermutesPlaces n (successor n line)
  -- each honest line but the greatest is followed by its successor
  pub succeeds : (n a : ℕ) (line : ℕ → DoubleLine) → n ≤ 2 ^ 20 → HonestDoubles n line → IsGreatest n line a
      → (i : ℕ) → i < n → i ≢ a → Succeeds (line i) i (line (successor n line i)) (successor n line i)
  -- and that of the greatest begins at (0, 0), in the least double cell
  pub begins : (n a : ℕ) (line : ℕ → DoubleLine) → n ≤ 2 ^ 20 → HonestDoubles n line → IsGreatest n line a
      → (line (successor n line a)).old ≡ no_words
  pub least : (n a : ℕ) (line : ℕ → DoubleLine) → n ≤ 2 ^ 20 → IsGreatest n line a
      → (q : ℕ) → q < n → (line (successor n line a)).cell ≤ (line q).cell
  -- the successor is the nearest: a line in a double cell above is not below the successor's
  pub nearest : (n a : ℕ) (line : ℕ → DoubleLine) → n ≤ 2 ^ 20 → IsGreatest n line a
      → (i q : ℕ) → i < n → i ≢ a → q < n → (line i).cell < (line q).cell → (line (successor n line i)).cell ≤ (line q).cell
  -- all together
  pub chained : (n a : ℕ) (line : ℕ → DoubleLine) → n ≤ 2 ^ 20 → HonestDoubles n line → IsGreatest n line a
      → Chained n a (successor n line) line
  -- they depend on the double cells alone
  pub cells : (n : ℕ) (line other : ℕ → DoubleLine) → ((i : ℕ) → i < n → (line i).cell ≡ (other i).cell) → (i : ℕ) → successor n line i ≡ successor n other i
