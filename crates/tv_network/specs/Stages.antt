-- The stages of a permutation network of any number of items as constraints: which are bound, where the wires stand, and
-- what the constraints and the values of their wires are.
use Rattle.std.specs.Prelude.{◌≡◌, ℕ, zero, suc, ◌+◌, ◌*◌, ◌%◌, ◌^◌, ◌<◌, ◌==◌, Bool, if◌then◌else◌, List, slice_index}
use Rattle.tv_bits.specs.Bit.{IsBit}
use Rattle.tv_core.specs.Below.{joined_below}
use Rattle.tv_core.specs.Circuits.{Circuit, here, ◌>>=◌}
use Rattle.tv_core.specs.Laws.{Assigns, Meets, HasFrom}
use Rattle.tv_core.specs.Lines.{pair_value}
use Rattle.tv_core.specs.Loops.{sequence}
use Rattle.tv_core.specs.Normal.{AreNormal}
use Rattle.tv_core.specs.declared.lines.Pair.{Pair}
use Rattle.tv_core.specs.declared.lines.PairNum.{PairNum}
use Rattle.tv_network.specs.Switches.{width, switch_of, passed_to, switch_values, bit_at, IsNormalPair}
use Rattle.tv_network.specs.declared.shape.Network.{Network}
use Rattle.tv_network.specs.declared.switches.Form.{Form}
use Rattle.tv_network.specs.declared.switches.Form.TheVariants.{Bound, Open}
use Rattle.tv_stages.specs.Stages.{depth, is_low, is_switched, number, position, remove_bit, stage_count, switch_count, switch_slot, through_first}
use Rattle.tv_stages.specs.Stages.{through_stages}
use Rattle.tv_word.specs.Word.{flag_of}

-- ---- wires
-- stage l is bound where its depth, which is how many stages are further outside on its side, is a multiple of the rate
abbrev pub form_of : Network → ℕ → Form
form_of n l = if depth n.items l % n.rate == 0 then Bound else Open

-- how many switches stage l has
abbrev pub switches_in : Network → ℕ → ℕ
switches_in n l = switch_count n.net n.items l

-- how many wires the first l stages make
unfoldable pub wires_before : Network → ℕ → ℕ
wires_before n zero = 0
wires_before n (suc l) = wires_before n l + switches_in n l * width (form_of n l)

-- how many wires all stages make
abbrev pub stages_wires : Network → ℕ
stages_wires n = wires_before n (stage_count n.items)

-- the first wire of the switch at a position of stage l, its bit, in a network whose wires begin at `first`
abbrev pub switch_wire : Network → ℕ → ℕ → ℕ → ℕ
switch_wire n first l at = first + wires_before n l + at * width (form_of n l)

-- the same of the switch that slot x is at
abbrev pub wire_at : Network → ℕ → ℕ → ℕ → ℕ
wire_at n first l x = switch_wire n first l (position n.net n.items l (remove_bit (depth n.items l) x))

-- what stands at slot x before stage l: the item at that slot; and after a stage what it passed on. A slot at no switch
-- keeps its combinations
unfoldable pub item_at : Network → ℕ → (ℕ → Pair) → ℕ → ℕ → Pair
item_at n first item zero x = item x
item_at n first item (suc l) x =
    let before = item_at n first item l x in
    if is_switched n.net n.items l x then passed_to (form_of n l) (is_low (depth n.items l) x) (wire_at n first l x) before else before

-- and after the last one
abbrev pub output_at : Network → ℕ → (ℕ → Pair) → ℕ → Pair
output_at n first item x = item_at n first item (stage_count n.items) x

-- ---- constraints
-- the two slots of the switch at a position
abbrev pub lower_slot : Network → ℕ → ℕ → ℕ
lower_slot n l at = switch_slot n.net n.items l at

abbrev pub upper_slot : Network → ℕ → ℕ → ℕ
upper_slot n l at = lower_slot n l at + 2 ^ depth n.items l

-- a stage's switches in order of position, between what stands at their slots
unfoldable pub stage_of : Network → ℕ → (ℕ → Pair) → Circuit (Unit {0})
stage_of n l item = sequence (switches_in n l) (λ at. switch_of (form_of n l) (item (lower_slot n l at)) (item (upper_slot n l at)))

-- the stages in order
unfoldable pub stages_of : Network → (ℕ → Pair) → Circuit (Unit {0})
stages_of n item = do
  first ← here
  sequence (stage_count n.items) (λ l. stage_of n l (item_at n first item l))

-- ---- the values
-- of a stage's switches; `bit i` is the bit of switch i, and `v` has what stands at the slots before it
unfoldable pub stage_values : Network → ℕ → (ℕ → Bool) → (ℕ → PairNum) → List ℕ
stage_values n l bit v = joined_below (switches_in n l)
    (λ at. switch_values (form_of n l) (bit (number n.net n.items l at)) (v (lower_slot n l at)) (v (upper_slot n l at)))

-- of all stages, by the bit of switch i of stage l and the numbers of the items
unfoldable pub stages_values : Network → (ℕ → ℕ → Bool) → (ℕ → PairNum) → List ℕ
stages_values n bit v = joined_below (stage_count n.items) (λ l. stage_values n l (bit l) (through_first n.net n.items bit l v))

-- ---- the laws
-- the bit of switch i of stage l of a network whose wires begin at `first`
abbrev pub wire_bit : List ℕ → Network → ℕ → ℕ → ℕ → Bool
wire_bit z n first l i = bit_at z (switch_wire n first l (position n.net n.items l i))

-- what an assignment that satisfies the constraints has: 0 or 1 at each switch, and at the outputs what goes through
pub record AreStages (z : List ℕ) (n : Network) (first : ℕ) (item : ℕ → Pair) : Type 0 where
  pub bits : (l at : ℕ) → l < stage_count n.items → at < switches_in n l → IsBit (slice_index z (switch_wire n first l at))
  pub outputs : (x : ℕ) → pair_value z (output_at n first item x) ≡ through_stages n.net n.items (wire_bit z n first) (λ j. pair_value z (item j)) x

abbrev pub StagesAreSound : Type 0
StagesAreSound = (z : List ℕ) (n : Network) (next : ℕ) (item : ℕ → Pair) → Assigns z → Meets z (stages_of n item next).list
    → AreStages z n next item

-- numbers that are the values of the items
abbrev pub AreValues : List ℕ → Network → (ℕ → Pair) → (ℕ → PairNum) → Type 0
AreValues z n item v = (x : ℕ) → x < n.items → pair_value z (item x) ≡ v x

-- what a network's values are computed from: the bits of its switches, and the numbers of its items
pub record Setting : Type 0 where
  pub bit : ℕ → ℕ → Bool
  pub number : ℕ → PairNum

-- what an assignment that has the values for these has: it satisfies the constraints, it has these bits at the switches,
-- and at the outputs what goes through by these bits of these numbers
pub record AreFilled (z : List ℕ) (n : Network) (first : ℕ) (item : ℕ → Pair) (by : Setting) : Type 0 where
  pub meets : Meets z (stages_of n item first).list
  pub bits : (l at : ℕ) → l < stage_count n.items → at < switches_in n l
      → slice_index z (switch_wire n first l at) ≡ flag_of (by.bit l (number n.net n.items l at))
  pub outputs : (x : ℕ) → x < n.items → pair_value z (output_at n first item x) ≡ through_stages n.net n.items by.bit by.number x

abbrev pub StagesAreComplete : Type 0
StagesAreComplete = (z : List ℕ) (n : Network) (next : ℕ) (item : ℕ → Pair) (bit : ℕ → ℕ → Bool) (v : ℕ → PairNum) → Assigns z
    → AreValues z n item v → HasFrom z next (stages_values n bit v) → AreFilled z n next item (record { bit = bit; number = v })

-- over normal items of wires before the first, every combination that is emitted is normal, and so are the outputs
pub record StagesAreNormal : Type 0 where
  pub puts : (n : Network) (next : ℕ) (item : ℕ → Pair) → ((x : ℕ) → x < n.items → IsNormalPair (item x) next)
      → AreNormal (stages_of n item next).list
  pub outputs : (n : Network) (next : ℕ) (item : ℕ → Pair) → ((x : ℕ) → x < n.items → IsNormalPair (item x) next)
      → (x : ℕ) → x < n.items → IsNormalPair (output_at n next item x) (next + stages_wires n)
