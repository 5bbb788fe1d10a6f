-- The memory argument: a permutation network brings to each double line, at its own place in time order, the item of its
-- successor in address order, and the line is checked against it there. The last line, which has no successor, is brought
-- the item of the least one.
use Rattle.std.specs.Prelude.{◌≡◌, ℕ, ◌+◌, ◌-◌, ◌^◌, ◌<◌, ◌≤◌, length}
use Rattle.tv_core.specs.Below.{sum_below}
use Rattle.tv_core.specs.Circuits.{Circuit, ◌>>=◌}
use Rattle.tv_core.specs.Combinations.{top}
use Rattle.tv_core.specs.Loops.{sequence}
use Rattle.tv_core.specs.Meanings.{terms_in}
use Rattle.tv_core.specs.Normal.{AreNormal}
use Rattle.tv_core.specs.declared.lines.Pair.{Pair}
use Rattle.tv_double_argument.specs.Checks.{AreShort, Lines, check_of, check_terms}
use Rattle.tv_double_argument.specs.Costs.{argument_added, argument_made, network_on}
use Rattle.tv_double_checks.specs.Items.{item_of}
use Rattle.tv_double_checks.specs.Last.{last_line_of}
use Rattle.tv_double_checks.specs.declared.items.CellWords.{CellWords}
use Rattle.tv_doubles.specs.Within.{IsBase}
use Rattle.tv_network.specs.Network.{network_of, network_terms, output_of}
use Rattle.tv_stages.specs.declared.nets.Net.{Net}

-- the combinations have at most seven terms each
pub record AreFewTerms (words : CellWords) : Type 0 where
  pub cell : length words.cell ≤ 7
  pub sum : length words.sum ≤ 7
  pub second : length words.second ≤ 7

-- and are of wires below a number
pub record AreShortWords (wires : ℕ) (words : CellWords) : Type 0 where
  pub cell : top words.cell ≤ wires
  pub sum : top words.sum ≤ wires
  pub second : top words.second ≤ wires
  pub few : AreFewTerms words

-- what each line finds and leaves is so, and the constant wire is below that number too
pub record AreMade (wires : ℕ) (lines : Lines) : Type 0 where
  pub one : 1 ≤ wires
  pub old : (i : ℕ) → i < lines.count → AreShortWords wires (lines.old i)
  pub new : (i : ℕ) → i < lines.count → AreShortWords wires (lines.new i)

-- ---- the circuit
-- the items of lines
abbrev pub items_of : ℕ → Lines → ℕ → Pair
items_of b lines i = item_of b (lines.old i)

-- each line but the last is checked against the item at its place, and the item at the last place is that of the least line
abbrev pub checks_of : ℕ → Lines → (ℕ → Pair) → Circuit (Unit {0})
checks_of b lines item = do
  _ ← sequence (lines.count - 1) (λ i. check_of b (lines.kind i) (lines.new i) (item i))
  last_line_of (item (lines.count - 1))

-- the items of all lines go through a network, and its outputs are checked
unfoldable pub argument_of : Net → ℕ → Lines → Circuit (Unit {0})
argument_of net b lines = do
  first ← network_of (network_on net lines.count) (items_of b lines)
  checks_of b lines (output_of (network_on net lines.count) first)

-- ---- what it costs
-- the terms of the network, whose wires begin at `first`, of all checks, and of the last one
abbrev pub argument_terms : Net → ℕ → ℕ → Lines → ℕ
argument_terms net b first lines =
    network_terms (network_on net lines.count) first (items_of b lines)
    + sum_below (lines.count - 1) (λ i. check_terms b (lines.kind i) (lines.new i)) + 2

-- how many wires and constraints the argument makes, and how many terms these have over lines of wires before its own:
-- fewer than 2 ^ 44
pub record ArgumentCosts : Type 0 where
  pub end : (net : Net) (b : ℕ) (lines : Lines) (next : ℕ) → (argument_of net b lines next).next ≡ next + argument_made net lines.kind lines.count
  pub constraints : (net : Net) (b : ℕ) (lines : Lines) (next : ℕ)
      → length (argument_of net b lines next).list ≡ argument_added net lines.kind lines.count
  pub terms : (net : Net) (b : ℕ) (lines : Lines) (next : ℕ) → 0 < lines.count → AreMade next lines
      → terms_in (argument_of net b lines next).list ≡ argument_terms net b next lines
  pub few : (net : Net) (b : ℕ) (lines : Lines) (next : ℕ) → lines.count ≤ 2 ^ 20 → AreShort lines.kind lines.count → AreMade next lines
      → argument_terms net b next lines < 2 ^ 44

-- ---- its combinations are normal
-- over lines of wires before the argument's own, whatever their combinations are
abbrev pub MemoryIsNormal : Type 0
MemoryIsNormal = (net : Net) (b : ℕ) (lines : Lines) (next : ℕ) → IsBase b → 0 < lines.count → AreShort lines.kind lines.count → AreMade next lines
    → AreNormal (argument_of net b lines next).list
