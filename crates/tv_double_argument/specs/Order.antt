-- The settings for the successors of double lines, and the values of the memory argument.
use Rattle.std.specs.Prelude.{ℕ, ◌-◌, ◌*◌, ◌/◌, ◌^◌, ◌<◌, Bool, List, ◌++◌}
use Rattle.tv_core.specs.Below.{joined_below}
use Rattle.tv_core.specs.declared.lines.PairNum.{PairNum}
use Rattle.tv_double_argument.specs.Checks.{Numbers, check_values}
use Rattle.tv_double_argument.specs.Costs.{network_on}
use Rattle.tv_double_checks.specs.Items.{packed}
use Rattle.tv_doubles.specs.Doubles.{DoubleLine, no_words}
use Rattle.tv_doubles.specs.Successors.{successor}
use Rattle.tv_network.specs.Filling.{pair_at}
use Rattle.tv_network.specs.Network.{network_values}
use Rattle.tv_stages.specs.Settings.{settings_of}
use Rattle.tv_stages.specs.Stages.{bit_in, places}
use Rattle.tv_stages.specs.declared.nets.Net.{Net}

-- for each place that of its successor in address order
abbrev pub successors : ℕ → (ℕ → DoubleLine) → List ℕ
successors n line = places n (successor n line)

-- the bits of a network that bring to each place the item of its successor
abbrev pub successor_bits : Net → ℕ → (ℕ → DoubleLine) → ℕ → ℕ → Bool
successor_bits net n line = bit_in net n (settings_of net (successors n line))

-- the values of the check of line i, against its successor
abbrev pub checked_values : ℕ → Numbers → ℕ → List ℕ
checked_values b lines i =
    let j = successor lines.count lines.line i in
    check_values b (lines.kind i) (lines.line i) i (lines.line j) j

-- the items of lines, in time order
abbrev pub items_in : ℕ → Numbers → List PairNum
items_in b lines = places lines.count (λ i. packed b (lines.line i) i)

-- the network has the values for these bits on these items, and each line but the last those of its check
abbrev pub argument_values : Net → ℕ → Numbers → List ℕ
argument_values net b lines =
    network_values (network_on net lines.count) (successor_bits net lines.count lines.line) (pair_at (items_in b lines))
    ++ joined_below (lines.count - 1) (checked_values b lines)

-- ---- read off items
-- the line of an item, by its double cell alone, and its place
abbrev pub line_read : ℕ → PairNum → DoubleLine
line_read b item = record { cell = item.first / (2 * b); old = no_words; new = no_words }

abbrev pub place_read : ℕ → PairNum → ℕ
place_read b item = item.second / b

-- the double cell is a number of 32 bits, and the place one of 20
pub record IsItem (b : ℕ) (item : PairNum) : Type 0 where
  pub cell : item.first / (2 * b) < 2 ^ 32
  pub place : item.second / b < 2 ^ 20

-- the values of the check of line i against an item at its place
abbrev pub routed_check : ℕ → Numbers → (ℕ → PairNum) → ℕ → List ℕ
routed_check b lines item i = check_values b (lines.kind i) (lines.line i) i (line_read b (item i)) (place_read b (item i))
