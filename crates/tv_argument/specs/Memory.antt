-- The memory argument: a permutation network brings to each line, at its own place in time order, the item of its
-- predecessor in address order, and the line is checked against it there.
use Rattle.std.specs.Prelude.{◌≡◌, ℕ, ◌+◌, ◌^◌, ◌<◌, ◌≤◌, Bool, List, ◌++◌, length, All}
use Rattle.tv_core.specs.Below.{joined_below, sum_below}
use Rattle.tv_core.specs.Circuits.{Circuit, ◌>>=◌}
use Rattle.tv_core.specs.Combinations.{top}
use Rattle.tv_core.specs.Lines.{Line}
use Rattle.tv_core.specs.Loops.{sequence}
use Rattle.tv_core.specs.Meanings.{terms_in}
use Rattle.tv_core.specs.Normal.{AreNormal}
use Rattle.tv_core.specs.declared.lines.LineLc.{LineLc}
use Rattle.tv_core.specs.declared.lines.Pair.{Pair}
use Rattle.tv_core.specs.declared.lines.PairNum.{PairNum}
use Rattle.tv_lines.specs.PackedLines.{pack_item, unpacked}
use Rattle.tv_lines.specs.Placed.{line_in, number_in}
use Rattle.tv_argument.specs.Checks.{Checks, AreShort, check_of, check_values, check_made, check_added, check_terms}
use Rattle.tv_argument.specs.Costs.{network_on, network_made}
use Rattle.tv_network.specs.Filling.{pair_at}
use Rattle.tv_network.specs.Network.{network_of, network_terms, network_values, output_of}
use Rattle.tv_stages.specs.Stages.{through_stages}
use Rattle.tv_stages.specs.declared.nets.Net.{Net}

-- a line's combinations have at most 14 terms each, and its time one, over wires below a number
pub record IsMade (wires : ℕ) (line : LineLc) : Type 0 where
  pub cell : top line.cell ≤ wires
  pub time : top line.time ≤ wires
  pub old : top line.old ≤ wires
  pub new : top line.new ≤ wires
  pub cell_short : length line.cell ≤ 14
  pub time_short : length line.time ≤ 1
  pub old_short : length line.old ≤ 14
  pub new_short : length line.new ≤ 14

-- ---- the circuit
-- the items of lines
abbrev pub items_of : List LineLc → ℕ → Pair
items_of lines i = pack_item (line_in lines i)

-- each line is checked against the output at its place of a network whose wires begin at `first`
abbrev pub checks_of : Net → Checks → List LineLc → ℕ → Circuit (Unit {0})
checks_of net checks lines first =
    sequence (length lines) (λ i. check_of (checks.kind i) (output_of (network_on net (length lines)) first i) (line_in lines i))

-- the items of all lines go through a network, and its outputs are checked
unfoldable pub argument_of : Net → Checks → List LineLc → Circuit (Unit {0})
argument_of net checks lines = do
  first ← network_of (network_on net (length lines)) (items_of lines)
  checks_of net checks lines first

-- how many wires it makes for so many lines, and how many constraints
abbrev pub argument_made : Net → Checks → ℕ → ℕ
argument_made net checks count = network_made net count + sum_below count (λ i. check_made (checks.kind i))

abbrev pub argument_added : Net → Checks → ℕ → ℕ
argument_added net checks count = network_made net count + sum_below count (λ i. check_added (checks.kind i))

-- ---- what it costs
-- the terms of the network, whose wires begin at `first`, and of all checks
abbrev pub argument_terms : Net → Checks → ℕ → List LineLc → ℕ
argument_terms net checks first lines =
    network_terms (network_on net (length lines)) first (items_of lines)
    + sum_below (length lines) (λ i. check_terms (checks.kind i) (line_in lines i))

-- how many constraints the argument emits, and how many terms they have over lines of wires before its own: fewer than
-- 2 ^ 44
pub record ArgumentCosts : Type 0 where
  pub constraints : (net : Net) (checks : Checks) (lines : List LineLc) (next : ℕ)
      → length (argument_of net checks lines next).list ≡ argument_added net checks (length lines)
  pub terms : (net : Net) (checks : Checks) (lines : List LineLc) (next : ℕ) → 1 ≤ next → All (IsMade next) lines
      → terms_in (argument_of net checks lines next).list ≡ argument_terms net checks next lines
  pub few : (net : Net) (checks : Checks) (lines : List LineLc) (next : ℕ) → length lines ≤ 2 ^ 20 → AreShort checks (length lines)
      → All (IsMade next) lines → argument_terms net checks next lines < 2 ^ 44

-- ---- its combinations are normal
-- over lines of wires before the argument's own, whatever their combinations are
abbrev pub MemoryIsNormal : Type 0
MemoryIsNormal = (net : Net) (checks : Checks) (lines : List LineLc) (next : ℕ) → 1 ≤ next → AreShort checks (length lines)
    → All (IsMade next) lines → AreNormal (argument_of net checks lines next).list

-- ---- the values
-- the values of the checks of lines, against the lines that the pairs at some places stand for
abbrev pub checks_values : Checks → (ℕ → PairNum) → List Line → List ℕ
checks_values checks item lines = joined_below (length lines) (λ i. check_values (checks.kind i) (unpacked (item i)) (number_in lines i))

-- the values of a network with some bits, on items, and of the checks of lines against its outputs
abbrev pub routed_values : Net → Checks → (ℕ → ℕ → Bool) → List PairNum → List Line → List ℕ
routed_values net checks bit items lines =
    network_values (network_on net (length items)) bit (pair_at items)
    ++ checks_values checks (through_stages net (length items) bit (pair_at items)) lines
