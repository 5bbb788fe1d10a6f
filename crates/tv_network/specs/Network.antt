-- A permutation network whose outputs are wires: its stages, and two wires more for each slot that no switch of the last
-- stage has.
use Rattle.std.specs.Prelude.{◌≡◌, ℕ, ◌+◌, ◌-◌, ◌*◌, ◌%◌, ◌^◌, ◌<◌, ◌≤◌, ◌==◌, nat_lt, Bool, if◌then◌else◌, List, [], ◌∷◌, ◌++◌, length}
use Rattle.tv_core.specs.Below.{joined_below, sum_below}
use Rattle.tv_core.specs.Circuits.{Circuit, fresh, here, put, pure, ◌>>=◌}
use Rattle.tv_core.specs.Combinations.{wire, constant}
use Rattle.tv_core.specs.Laws.{Assigns, Meets, HasFrom, Fills, InField}
use Rattle.tv_core.specs.Lines.{pair_value}
use Rattle.tv_core.specs.Loops.{sequence}
use Rattle.tv_core.specs.Meanings.{terms_in}
use Rattle.tv_core.specs.Normal.{AreNormal}
use Rattle.tv_core.specs.declared.field.TheConstants.{P}
use Rattle.tv_core.specs.declared.lines.Pair.{Pair}
use Rattle.tv_core.specs.declared.lines.PairNum.{PairNum}
use Rattle.tv_network.specs.Costs.{bound_before, stages_terms}
use Rattle.tv_network.specs.Stages.{stages_of, stages_wires, wires_before, stages_values, item_at, wire_at, wire_bit, AreValues, Setting}
use Rattle.tv_network.specs.Switches.{wires_at, ArePairsMade, IsNormalPair}
use Rattle.tv_network.specs.declared.shape.Network.{Network}
use Rattle.tv_stages.specs.Stages.{is_low, stage_count, switches, through_stages}
use Rattle.tv_stages.specs.declared.nets.Net.{Net}
use Rattle.tv_stages.specs.declared.nets.Net.TheVariants.{Benes, Waksman}

-- ---- wires
-- how many slots of an even number no switch of the last stage has: the first two in Waksman's network, but of two
abbrev pub left_out : Net → ℕ → ℕ
left_out Benes L = 0
left_out Waksman L = if nat_lt 2 L then 2 else 0

-- the loose slots, which are at no switch of the last stage: these, or the last one of an odd number; how many there are,
-- the one with a number, and whether a slot is one
abbrev pub loose_count : Network → ℕ
loose_count n = if n.items % 2 == 1 then 1 else left_out n.net n.items

abbrev pub loose_slot : Network → ℕ → ℕ
loose_slot n j = if n.items % 2 == 1 then n.items - 1 else j

abbrev pub is_loose : Network → ℕ → Bool
is_loose n x = if n.items % 2 == 1 then x == n.items - 1 else nat_lt x (left_out n.net n.items)

-- the number of a loose slot
abbrev pub loose_number : Network → ℕ → ℕ
loose_number n x = if n.items % 2 == 1 then 0 else x

-- how many wires the network makes
abbrev pub network_wires : Network → ℕ
network_wires n = stages_wires n + 2 * loose_count n

-- the first of the two wires of output x: of the switch of the last stage there, or the slot's own
abbrev pub output_wire : Network → ℕ → ℕ → ℕ
output_wire n first x =
    if is_loose n x then first + stages_wires n + 2 * loose_number n x
    else wire_at n first (stage_count n.items - 1) x + (if is_low 0 x then 1 else 3)

abbrev pub output_of : Network → ℕ → ℕ → Pair
output_of n first x = wires_at (output_wire n first x)

-- the first wires of the last stage and of the loose slots' wires, in a network whose wires have numbers of 32 bits
pub record AreOutputs (n : Network) (first last loose : ℕ) : Type 0 where
  pub stage : last ≡ first + wires_before n (stage_count n.items - 1)
  pub own : loose ≡ first + stages_wires n
  pub below : first + network_wires n < 2 ^ 32

-- ---- constraints
-- a new wire for each of two numbers
unfoldable pub kept_of : Pair → Circuit (Unit {0})
kept_of x = do
  w ← fresh
  _ ← put x.first (constant 1) (wire w)
  w' ← fresh
  put x.second (constant 1) (wire w')

-- what stands at the loose slots after the last stage
abbrev pub loose_of : Network → ℕ → (ℕ → Pair) → Circuit (Unit {0})
loose_of n first item = sequence (loose_count n) (λ j. kept_of (item_at n first item (stage_count n.items) (loose_slot n j)))

-- the stages, and the loose slots' wires; it returns the first wire
unfoldable pub network_of : Network → (ℕ → Pair) → Circuit ℕ
network_of n item = do
  first ← here
  _ ← stages_of n item
  _ ← loose_of n first item
  pure first

-- the terms of the constraints over items
abbrev pub kept_terms : Pair → ℕ
kept_terms x = length x.first + length x.second + 4

unfoldable pub network_terms : Network → ℕ → (ℕ → Pair) → ℕ
network_terms n first item =
    stages_terms n first item + sum_below (loose_count n) (λ j. kept_terms (item_at n first item (stage_count n.items) (loose_slot n j)))

-- ---- the values
abbrev pub kept_values : PairNum → List ℕ
kept_values x = x.first ∷ x.second ∷ []

-- by the bit of switch i of stage l and the numbers of the items
unfoldable pub network_values : Network → (ℕ → ℕ → Bool) → (ℕ → PairNum) → List ℕ
network_values n bit v =
    stages_values n bit v ++ joined_below (loose_count n) (λ j. kept_values (through_stages n.net n.items bit v (loose_slot n j)))

-- ---- the laws
-- what goes through by the bits at the switches' wires stands at the outputs in every assignment that satisfies the
-- constraints
abbrev pub NetworkIsSound : Type 0
NetworkIsSound = (z : List ℕ) (n : Network) (next : ℕ) (item : ℕ → Pair) → Assigns z → Meets z (network_of n item next).list
    → (x : ℕ) → x < n.items
    → pair_value z (output_of n next x) ≡ through_stages n.net n.items (wire_bit z n next) (λ j. pair_value z (item j)) x

-- what an assignment that has the values for a setting has: it satisfies the constraints, and at the outputs stands what
-- goes through
pub record IsRouted (z : List ℕ) (n : Network) (first : ℕ) (item : ℕ → Pair) (by : Setting) : Type 0 where
  pub meets : Meets z (network_of n item first).list
  pub outputs : (x : ℕ) → x < n.items → pair_value z (output_of n first x) ≡ through_stages n.net n.items by.bit by.number x

abbrev pub NetworkIsComplete : Type 0
NetworkIsComplete = (z : List ℕ) (n : Network) (next : ℕ) (item : ℕ → Pair) (bit : ℕ → ℕ → Bool) (v : ℕ → PairNum) → Assigns z
    → AreValues z n item v → HasFrom z next (network_values n bit v) → IsRouted z n next item (record { bit = bit; number = v })

-- over normal items of wires before the first, every combination that is emitted is normal
abbrev pub NetworkIsNormal : Type 0
NetworkIsNormal = (n : Network) (next : ℕ) (item : ℕ → Pair) → ((x : ℕ) → x < n.items → IsNormalPair (item x) next)
    → AreNormal (network_of n item next).list

-- A network costs a constraint for each wire: three a switch, two more a bound one, and two a loose slot; at most five
-- for each of (2 k - 1) 2 ^ (k - 1) switches and four, k being the height. Its terms are those of its switches and of the
-- loose slots, whatever the items are.
pub record NetworkIsCounted : Type 0 where
  pub constraints : (n : Network) (item : ℕ → Pair) (next : ℕ) → length (network_of n item next).list ≡ network_wires n
  pub wires : (n : Network) → network_wires n ≡ 3 * switches n.net n.items + 2 * bound_before n (stage_count n.items) + 2 * loose_count n
  pub most : (n : Network) (h : ℕ) → n.items ≤ 2 ^ (h + 1) → network_wires n ≤ 5 * ((2 * h + 1) * 2 ^ h) + 4
  pub terms : (n : Network) (item : ℕ → Pair) (next : ℕ) → terms_in (network_of n item next).list ≡ network_terms n next item
  pub few : (n : Network) (item : ℕ → Pair) (next : ℕ) → n.items ≤ 2 ^ 25 → ArePairsMade 15 item n.items next → network_terms n next item < 2 ^ 43

-- the sizes of a network: it returns its first wire, and has one value for each wire; its outputs are wires of its own;
-- and over items in the field all values are in the field
pub record NetworkFills : Type 0 where
  pub answer : (n : Network) (next : ℕ) (item : ℕ → Pair) → (network_of n item next).answer ≡ next
  pub ends : (n : Network) (next : ℕ) (item : ℕ → Pair) → (network_of n item next).next ≡ next + network_wires n
  pub fills : (n : Network) (item : ℕ → Pair) (bit : ℕ → ℕ → Bool) (v : ℕ → PairNum) → Fills (network_of n item) (network_values n bit v)
  pub own : (n : Network) (next x : ℕ) → x < n.items → next ≤ output_wire n next x
  pub below : (n : Network) (next x : ℕ) → x < n.items → output_wire n next x + 1 < next + network_wires n
  pub small : (n : Network) (bit : ℕ → ℕ → Bool) (v : ℕ → PairNum) → ((x : ℕ) → x < n.items → ((v x).first < P) × ((v x).second < P))
      → InField (network_values n bit v)
