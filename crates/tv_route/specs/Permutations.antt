-- Permutations of the numbers below a bound, as lists.
use Rattle.std.specs.Prelude.{◌≡◌, ℕ, ◌<◌, ◌≤◌, ◌^◌, List, length, slice_index, IsPermutation}
use Rattle.tv_benes.specs.Through.{places}

-- p has each number below m once: p is a permutation of them, and `back` says where each stands
pub record Permutes (m : ℕ) (p : List ℕ) : Type 0 where
  pub as_long : length p ≡ m
  pub below : (i : ℕ) → i < m → slice_index p i < m
  pub back : ℕ → ℕ
  pub back_below : (x : ℕ) → x < m → back x < m
  pub there : (x : ℕ) → x < m → slice_index p (back x) ≡ x
  pub once : (i j : ℕ) → i < m → j < m → slice_index p i ≡ slice_index p j → i ≡ j

-- p is a permutation of the numbers below 2 ^ k, k from 1 to 31
pub record IsRoutable (p : List ℕ) : Type 0 where
  pub k : ℕ
  pub some : 1 ≤ k
  pub few : k ≤ 31
  pub permutes : Permutes (2 ^ k) p

-- the numbers 0, 1, .. n - 1 in another order, as after a sort, are a permutation
abbrev pub RearrangedIsPermutation : Type 0
RearrangedIsPermutation = (n : ℕ) (p : List ℕ) → IsPermutation (places n (λ i. i)) p → Permutes n p
