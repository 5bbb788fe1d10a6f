-- Lines in address order, by a sort of their keys; the predecessor of each; and the values of the memory argument.
use Rattle.std.specs.Prelude.{◌≡◌, ◌≢◌, ℕ, ◌-◌, ◌%◌, ◌^◌, ◌<◌, ◌≤◌, ◌==◌, nat_le, if◌then◌else◌, List, [], ◌∷◌, ◌++◌}
use Rattle.std.specs.Prelude.{length, map, get_or, slice_index, Bool, IsPermutation}
use Rattle.tv_core.specs.Below.{each_below, joined_below}
use Rattle.tv_core.specs.Lines.{Line, Honest}
use Rattle.tv_lines.specs.Ordered.{Follows, Ordered, key}
use Rattle.tv_lines.specs.PackedLines.{time_bits, packed_item, without_old}
use Rattle.tv_lines.specs.Placed.{number_in, LinesFrom}
use Rattle.tv_argument.specs.Checks.{Checks, check_values}
use Rattle.tv_argument.specs.Costs.{network_on}
use Rattle.tv_argument.specs.Memory.{routed_values}
use Rattle.tv_network.specs.Network.{network_values}
use Rattle.tv_stages.specs.Settings.{index_in, settings_of}
use Rattle.tv_stages.specs.Stages.{bit_in, places, IsReordering}
use Rattle.tv_stages.specs.declared.nets.Net.{Net}

-- ---- address order
-- a number put into a rising list, and a list in rising order
abbrev pub put_in : ℕ → List ℕ → List ℕ
put_in k [] = k ∷ []
put_in k (m ∷ rest) = if nat_le k m then k ∷ m ∷ rest else m ∷ put_in k rest

abbrev pub rising : List ℕ → List ℕ
rising [] = []
rising (k ∷ rest) = put_in k (rising rest)

-- of lines whose times are their places: where the line stands that comes first in address order, second, ..
abbrev pub address_order : List Line → List ℕ
address_order lines = map (λ k. k % 2 ^ time_bits) (rising (map key lines))

-- the place that stands at a place
abbrev pub place_at : List ℕ → ℕ → ℕ
place_at order i = get_or order i 0

-- ---- predecessors
-- the index before one of n, in a circle
abbrev pub index_before : ℕ → ℕ → ℕ
index_before n j = if j == 0 then n - 1 else j - 1

-- the number that stands before a number in a list; before the first stands the last
abbrev pub previous_in : List ℕ → ℕ → ℕ
previous_in order i = place_at order (index_before (length order) (index_in i order))

abbrev pub previous_order : List ℕ → List ℕ
previous_order order = places (length order) (previous_in order)

-- of lines whose times are their places: for each place that of its predecessor in address order; the predecessor of
-- the first is the last
abbrev pub predecessors : List Line → List ℕ
predecessors lines = previous_order (address_order lines)

abbrev pub line_before : List Line → ℕ → Line
line_before lines i = number_in lines (place_at (predecessors lines) i)

-- ---- the values of the memory argument
-- the bits of a network that bring to each place the item of its predecessor
abbrev pub predecessor_bits : Net → List Line → ℕ → ℕ → Bool
predecessor_bits net lines = bit_in net (length lines) (settings_of net (predecessors lines))

-- the network has these, and each line is checked against its predecessor
abbrev pub argument_values : Net → Checks → List Line → List ℕ
argument_values net checks lines =
    network_values (network_on net (length lines)) (predecessor_bits net lines) (λ j. packed_item (number_in lines j))
    ++ joined_below (length lines) (λ i. check_values (checks.kind i) (line_before lines i) (number_in lines i))

-- ---- the laws
-- the address order is a permutation of the places, and honest lines are in address order there
pub record AddressOrderIsRight : Type 0 where
  pub permutes : (lines : List Line) → length lines ≤ 2 ^ 20 → LinesFrom 0 lines → IsPermutation (places (length lines) (λ i. i)) (address_order lines)
  pub ordered : (lines : List Line) → length lines ≤ 2 ^ 20 → LinesFrom 0 lines → Honest lines
      → Ordered (each_below (length lines) (λ i. number_in lines (place_at (address_order lines) i)))

-- line a has the least key
abbrev pub IsLeast : List Line → ℕ → Type 0
IsLeast lines a = (a < length lines) × ((i : ℕ) → i < length lines → key (number_in lines a) ≤ key (number_in lines i))

-- the predecessors are a permutation of the places; each honest line but the least follows its predecessor, and the least
-- begins at 0; they don't depend on old words; and through the settings for them the items bring the argument's values
pub record PredecessorsAreRight : Type 0 where
  pub long : (lines : List Line) → length (predecessors lines) ≡ length lines
  pub permutes : (lines : List Line) → length lines ≤ 2 ^ 20 → LinesFrom 0 lines
      → IsReordering (length lines) (λ i. slice_index (predecessors lines) i)
  pub follows : (lines : List Line) (a : ℕ) → length lines ≤ 2 ^ 20 → LinesFrom 0 lines → Honest lines → IsLeast lines a
      → (i : ℕ) → i < length lines → i ≢ a → Follows (line_before lines i) (number_in lines i)
  pub begins : (lines : List Line) (a : ℕ) → length lines ≤ 2 ^ 20 → LinesFrom 0 lines → Honest lines → IsLeast lines a → (number_in lines a).old ≡ 0
  pub items : (lines : List Line) → predecessors (map without_old lines) ≡ predecessors lines
  pub reached : (net : Net) (checks : Checks) (lines : List Line) → length lines ≤ 2 ^ 20 → LinesFrom 0 lines
      → routed_values net checks (predecessor_bits net lines) (map packed_item lines) lines ≡ argument_values net checks lines
