-- What a network costs: its switches, bound ones twice, and the terms of their items.
use Rattle.std.specs.Prelude.{◌≡◌, ℕ, zero, suc, ◌+◌, ◌*◌, ◌++◌, length}
use Rattle.tv_core.specs.Below.{sum_below}
use Rattle.tv_core.specs.Combinations.{less}
use Rattle.tv_core.specs.Constraints.{Combination}
use Rattle.tv_core.specs.Meanings.{terms_in}
use Rattle.tv_core.specs.Normal.{normal}
use Rattle.tv_core.specs.declared.lines.Pair.{Pair}
use Rattle.tv_network.specs.Stages.{form_of, switches_in, stages_wires, item_at, lower_slot, upper_slot, stages_of}
use Rattle.tv_network.specs.declared.shape.Network.{Network}
use Rattle.tv_network.specs.declared.switches.Form.{Form}
use Rattle.tv_network.specs.declared.switches.Form.TheVariants.{Bound, Open}
use Rattle.tv_stages.specs.Stages.{stage_count, switches}

-- how many of n switches of a form are bound, and how many of the first l stages are
abbrev pub bound_of : Form → ℕ → ℕ
bound_of Bound n = n
bound_of Open n = 0

unfoldable pub bound_before : Network → ℕ → ℕ
bound_before n zero = 0
bound_before n (suc l) = bound_before n l + bound_of (form_of n l) (switches_in n l)

-- the terms of a switch's constraints for one number of each of its two items: of the choice, and of the sum; or of the
-- product
abbrev pub number_terms : Form → Combination → Combination → ℕ
number_terms Bound x y = 1 + length (normal (less y x)) + (length x + 1) + (length (normal (x ++ y)) + 1 + 2)
number_terms Open x y = 1 + length (normal (less x y)) + 1

-- of all its constraints, with the three of its bit's
abbrev pub switch_terms : Form → Pair → Pair → ℕ
switch_terms form x y = 3 + number_terms form x.first y.first + number_terms form x.second y.second

-- of a stage's switches between what stands at the slots, and of all stages
unfoldable pub stage_terms : Network → ℕ → (ℕ → Pair) → ℕ
stage_terms n l item = sum_below (switches_in n l) (λ at. switch_terms (form_of n l) (item (lower_slot n l at)) (item (upper_slot n l at)))

unfoldable pub stages_terms : Network → ℕ → (ℕ → Pair) → ℕ
stages_terms n first item = sum_below (stage_count n.items) (λ l. stage_terms n l (item_at n first item l))

-- A network costs a constraint for each wire that it makes: three a switch, and two more a bound one. Its terms are those
-- of its switches, whatever the items are.
pub record StagesAreCounted : Type 0 where
  pub constraints : (n : Network) (item : ℕ → Pair) (next : ℕ) → length (stages_of n item next).list ≡ stages_wires n
  pub wires : (n : Network) → stages_wires n ≡ 3 * switches n.net n.items + 2 * bound_before n (stage_count n.items)
  pub terms : (n : Network) (item : ℕ → Pair) (next : ℕ) → terms_in (stages_of n item next).list ≡ stages_terms n next item
