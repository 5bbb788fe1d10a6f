-- What the memory argument puts is normal.
use Rattle.tv_core.proofs.Common.{ℕ, ◌+◌, ◌-◌, ◌<◌, ◌≤◌, ◌++◌, sym, arith, subst, turns, scaled, constant, top, AreNormal, sequence}
use Rattle.tv_core.proofs.NormalCircuits.{normal_then, normal_turns}
use Rattle.tv_core.proofs.NormalLaws.{IsNormalFrom-normal}
use Rattle.tv_core.specs.declared.lines.Pair.{Pair}
use Rattle.tv_double_argument.proofs.Made.{are_made}
use Rattle.tv_double_argument.proofs.Sizes.{argument_is, check_next, each_check, turns_end}
use Rattle.tv_double_argument.specs.Checks.{Lines, check_made, check_of, reach_bits}
use Rattle.tv_double_argument.specs.Costs.{network_on}
use Rattle.tv_double_argument.specs.Memory.{AreMade, MemoryIsNormal, checks_of, items_of}
use Rattle.tv_double_argument.specs.declared.kinds.Kind.{Kind}
use Rattle.tv_double_argument.specs.declared.kinds.Kind.TheVariants.{Within, Image, Tape, Guard}
use Rattle.tv_double_checks.proofs.GuardLaws.{guard_normal}
use Rattle.tv_double_checks.proofs.ImageLaws.{image_pair_normal}
use Rattle.tv_double_checks.proofs.LastLaws.{last_line_sizes}
use Rattle.tv_double_checks.proofs.TapeLaws.{tape_word_sizes}
use Rattle.tv_double_checks.proofs.WithinNormal.{within_normal}
use Rattle.tv_double_checks.specs.Items.{unit}
use Rattle.tv_double_checks.specs.Last.{last_line_of}
use Rattle.tv_double_checks.specs.declared.items.CellWords.{CellWords}
use Rattle.tv_doubles.specs.Within.{IsBase}
use Rattle.tv_network.proofs.NetworkLaws.{network_fills, network_normal}
use Rattle.tv_network.specs.Network.{network_of, output_of, output_wire}
use Rattle.tv_network.specs.Switches.{IsNormalPair}
use Rattle.tv_network.specs.declared.shape.Network.{Network}

-- an item
item_normal : (b next i : ℕ) (lines : Lines) → i < lines.count → AreMade next lines → IsNormalPair (items_of b lines i) next
item_normal b next i lines h made =
    let m = are_made b next lines made i h in
    let words : CellWords = lines.old i in
    record {
      first = IsNormalFrom-normal (scaled (unit b) words.cell ++ words.sum);
      second = IsNormalFrom-normal (scaled b (constant words.place) ++ words.second);
      first_below = m.first;
      second_below = m.second;
    }

-- a check
check_normal : (b : ℕ) (kind : Kind) (own : CellWords) (item : Pair) (next : ℕ) → IsBase b → reach_bits kind ≤ 30 → 1 ≤ next
    → top own.cell ≤ next → top own.sum ≤ next → top own.second ≤ next → top item.first ≤ next → top item.second ≤ next
    → AreNormal (check_of b kind own item next).list
check_normal b (Within m) own item next base short one cell sum second first other =
    within_normal b m own item next base short one cell sum second first other
check_normal b (Image m) own item next base short one cell sum second first other = image_pair_normal b m own item next base short one second other
check_normal b Tape own item next base short one cell sum second first other = tape_word_sizes.is_normal b own item next
check_normal b (Guard m) own item next base short one cell sum second first other = guard_normal b m own item next base short one cell first

pub memory_normal : MemoryIsNormal
memory_normal net b lines next base some short made =
    let network : Network = network_on net lines.count in
    let item : ℕ → Pair = output_of network next in
    let at = (network_of network (items_of b lines) next).next in
    let end = network_fills.ends network next (items_of b lines) in
    let one = made.one in
    subst (λ c. AreNormal c.list) (sym (argument_is net b lines next))
    (normal_then (network_of network (items_of b lines)) (λ _. checks_of b lines item) next
    (network_normal network next (items_of b lines) (λ i h. item_normal b next i lines h made))
    (normal_then (sequence (lines.count - 1) (each_check b lines item)) (λ _. last_line_of (item (lines.count - 1))) at
    (normal_turns (λ i _. each_check b lines item i) tt at (lines.count - 1)
    (λ i h.
    let words = made.new i (omega arith) in
    let from = turns_end (each_check b lines item) (λ i. check_made (lines.kind i))
    (λ j w. check_next b (lines.kind j) (lines.new j) (item j) w) i at in
    let place = (turns i (λ i _. each_check b lines item i) tt at).next in
    let out : output_wire network next i + 1 < place = omega (arith, from, end, network_fills.below network next i (omega arith)) in
    check_normal b (lines.kind i) (lines.new i) (item i) place base (short i (omega arith)) (omega (arith, from, end))
    (omega (arith, from, end, words.cell)) (omega (arith, from, end, words.sum)) (omega (arith, from, end, words.second)) (omega arith) (omega arith)))
    (last_line_sizes.is_normal (item (lines.count - 1)) _)))
