-- Settings of a network for a permutation, by the looping method: output i is to be the input at place p i. Inputs
-- 2 j and 2 j + 1 go through different halves, and so do the inputs of outputs 2 j and 2 j + 1. A walk from an input
-- alternates these two pairings until it is back where it began.
use Rattle.std.specs.Prelude.{◌≡◌, ℕ, zero, suc, ◌+◌, ◌-◌, ◌*◌, ◌/◌, ◌%◌, ◌^◌, ◌<◌, ◌≤◌, ◌==◌, nat_lt, Bool, true, false, if◌then◌else◌, List, [], ◌∷◌, ◌++◌}
use Rattle.std.specs.Prelude.{length, get_or, slice_index, set, replicate, Option, Some, None, is_none, unwrap_or}
use Rattle.tv_benes.specs.Items.{bit_at}
use Rattle.tv_benes.specs.Through.{switches, missing, places, through}
use Rattle.tv_benes.specs.declared.shape.Net.{Net}
use Rattle.tv_core.specs.declared.lines.PairNum.{PairNum}
use Rattle.tv_route.specs.Permutations.{Permutes}

-- the other place of the pair 2 j, 2 j + 1
abbrev pub other : ℕ → ℕ
other x = if x % 2 == 0 then x + 1 else x - 1

-- of each input the one that goes to the other output of the same pair, for the pairs below j
unfoldable pub partners : List ℕ → ℕ → List ℕ
partners p zero = p
partners p (suc j) =
    let a = slice_index p (2 * j) in
    let b = slice_index p (2 * j + 1) in
    set (set (partners p j) a b) b a

-- whether an input goes through the lower half, where that is settled
abbrev pub Mark : Type 0
Mark = Option Bool

-- settles the inputs from x on: x goes up, so its partner goes down, so the input beside that one goes up; until the
-- input is reached at which the walk began
unfoldable pub walk : List ℕ → ℕ → ℕ → ℕ → List Mark → List Mark
walk partner zero start x marks = marks
walk partner (suc steps) start x marks =
    let y = slice_index partner x in
    let more = set (set marks x (Some false)) y (Some true) in
    if other y == start then more else walk partner steps start (other y) more

-- walks from each even input below 2 j that is not settled, in turn
unfoldable pub walks : List ℕ → ℕ → ℕ → List Mark → List Mark
walks partner n zero marks = marks
walks partner n (suc j) marks =
    let before = walks partner n j marks in
    if is_none (get_or before (2 * j) None) then walk partner n (2 * j) (2 * j) before else before

-- for 2 n inputs: the first walk begins at the input of output 0, which so goes up
abbrev pub halves : List ℕ → ℕ → List Mark
halves p n = let start = slice_index p 0 in walks (partners p n) n n (walk (partners p n) n start start (replicate (2 * n) None))

-- whether an input goes through the lower half
abbrev pub down : List Mark → ℕ → Bool
down marks x = unwrap_or (get_or marks x None) false

-- the input that goes through the upper, and through the lower half to the pair of outputs j
abbrev pub up_input : List Mark → List ℕ → ℕ → ℕ
up_input marks p j = if down marks (slice_index p (2 * j)) then slice_index p (2 * j + 1) else slice_index p (2 * j)

abbrev pub down_input : List Mark → List ℕ → ℕ → ℕ
down_input marks p j = if down marks (slice_index p (2 * j)) then slice_index p (2 * j) else slice_index p (2 * j + 1)

-- the settings of a network of level h for p: the bits of the first column, the settings of the upper network for the
-- places of the inputs that go through it, those of the lower one, and the bits of the last column
unfoldable pub route : Net → ℕ → List ℕ → List Bool
route net zero p = (slice_index p 0 == 1) ∷ []
route net (suc h) p =
    let n = 2 ^ suc h in
    let marks = halves p n in
    places n (λ j. down marks (2 * j))
    ++ (route net h (places n (λ j. up_input marks p j / 2))
    ++ (route net h (places n (λ j. down_input marks p j / 2))
    ++ places (n - missing net) (λ j. down marks (slice_index p (2 * (j + missing net))))))

-- the level of a network on n items: how often n can be halved until it is no more than 2, in at most `fuel` steps
abbrev pub level_within : ℕ → ℕ → ℕ
level_within zero n = 0
level_within (suc fuel) n = if nat_lt 2 n then suc (level_within fuel (n / 2)) else 0

abbrev pub route_level_of : List ℕ → ℕ
route_level_of p = level_within (length p) (length p)

-- the settings for p
abbrev pub route_of : Net → List ℕ → List Bool
route_of net p = route net (route_level_of p) p

-- for every permutation p of 2 ^ k places: there is a bit for each switch, and through these settings output i is the
-- input at place p i, for numbers and for pairs of numbers
pub record RouteIsRight : Type 0 where
  pub size : (net : Net) (k : ℕ) (p : List ℕ) → 1 ≤ k → length p ≡ 2 ^ k → length (route_of net p) ≡ switches net (k - 1)
  pub numbers : (net : Net) (k : ℕ) (p : List ℕ) (item : ℕ → ℕ) → 1 ≤ k → Permutes (2 ^ k) p
      → (i : ℕ) → i < 2 ^ k → through net (k - 1) (bit_at (route_of net p)) item i ≡ item (slice_index p i)
  pub pairs : (net : Net) (k : ℕ) (p : List ℕ) (item : ℕ → PairNum) → 1 ≤ k → Permutes (2 ^ k) p
      → (i : ℕ) → i < 2 ^ k → through net (k - 1) (bit_at (route_of net p)) item i ≡ item (slice_index p i)
