-- What is known of the predecessors, and that the settings for them give the argument's values.
use Rattle.tv_core.proofs.Common.{◌≡◌, ℕ, ◌≤◌, ◌^◌, Bool, List, ◌++◌, length, map, length-map, ap, ◌∙◌, arith, Line}
use Rattle.tv_core.specs.declared.lines.PairNum.{PairNum}
use Rattle.tv_lines.proofs.PackingLaws.{unpack_packed}
use Rattle.tv_lines.specs.PackedLines.{LineInRange, packed_item, unpacked, without_old}
use Rattle.tv_lines.specs.Placed.{LinesFrom, number_in, zero_line}
use Rattle.tv_argument.proofs.Complete.{brought}
use Rattle.tv_argument.proofs.FillingLaws.{joined_below-same}
use Rattle.tv_argument.proofs.Parts.{map_value, ranged}
use Rattle.tv_argument.proofs.Previous.{predecessors_long, permutes, follows, begins, old_no_key}
use Rattle.tv_argument.specs.Checks.{Checks, check_values}
use Rattle.tv_argument.specs.Costs.{network_on}
use Rattle.tv_argument.specs.Memory.{checks_values, routed_values}
use Rattle.tv_argument.specs.Order.{line_before, predecessor_bits, argument_values, place_at, predecessors, PredecessorsAreRight}
use Rattle.tv_argument.specs.declared.kinds.Kind.{Kind}
use Rattle.tv_argument.specs.declared.kinds.Kind.TheVariants.{ZeroOld, Least, Boot, Within}
use Rattle.tv_network.specs.Filling.{pair_at}
use Rattle.tv_network.specs.Network.{network_values}
use Rattle.tv_stages.specs.Stages.{through_stages}
use Rattle.tv_stages.specs.declared.nets.Net.{Net}

-- the items at places
items_are : (lines : List Line) → ◌≡◌ {A = ℕ → PairNum} (pair_at (map packed_item lines)) (λ j. packed_item (number_in lines j))
items_are lines = λ d j. map_value packed_item lines j zero_line d

-- a predecessor's old word is no part of the values
check_same : (kind : Kind) (p l : Line) → LineInRange p → check_values kind (unpacked (packed_item p)) l ≡ check_values kind p l
check_same kind p l r =
    ap (λ m. check_values kind m l) (unpack_packed (without_old p) (record { cell = r.cell; time = r.time; old = omega arith; new = r.new }))
    ∙ left_out kind p l
  where
    left_out : (kind : Kind) (p l : Line) → check_values kind (without_old p) l ≡ check_values kind p l
    left_out ZeroOld p l = λ i. check_values ZeroOld p l
    left_out Least p l = λ i. check_values Least p l
    left_out (Boot c) p l = λ i. check_values (Boot c) p l
    left_out (Within m) p l = λ i. check_values (Within m) p l

reached : (net : Net) (checks : Checks) (lines : List Line) → length lines ≤ 2 ^ 20 → LinesFrom 0 lines
    → routed_values net checks (predecessor_bits net lines) (map packed_item lines) lines ≡ argument_values net checks lines
reached net checks lines few from =
    let n : ℕ = length lines in
    let bit : ℕ → ℕ → Bool = predecessor_bits net lines in
    let number : ℕ → PairNum = λ j. packed_item (number_in lines j) in
    ap (λ m. network_values (network_on net m) bit (pair_at (map packed_item lines))
    ++ checks_values checks (through_stages net m bit (pair_at (map packed_item lines))) lines) (length-map lines packed_item)
    ∙ ap (λ f. network_values (network_on net n) bit f ++ checks_values checks (through_stages net n bit f) lines) (items_are lines)
    ∙ ap (λ rest. network_values (network_on net n) bit number ++ rest)
    (joined_below-same n (λ i. check_values (checks.kind i) (unpacked (through_stages net n bit number i)) (number_in lines i))
    (λ i. check_values (checks.kind i) (line_before lines i) (number_in lines i))
    (λ i h.
    ap (λ pair. check_values (checks.kind i) (unpacked pair) (number_in lines i)) (brought net lines number few from i h)
    ∙ check_same (checks.kind i) (line_before lines i) (number_in lines i) (ranged lines few from (place_at (predecessors lines) i))))

pub predecessors_right : PredecessorsAreRight
predecessors_right = record {
  long = predecessors_long;
  permutes = λ lines few from. permutes lines few from;
  follows = λ lines a few from honest least. follows lines few from honest a least.0 least.1;
  begins = λ lines a few from honest least. begins lines few from honest a least.0 least.1;
  items = old_no_key;
  reached = reached;
}
