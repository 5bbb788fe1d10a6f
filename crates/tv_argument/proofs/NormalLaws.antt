-- What the memory argument puts is normal.
use Rattle.tv_core.proofs.Common.{ℕ, ◌+◌, ◌%◌, ◌^◌, ◌<◌, ◌≤◌, List, length, All, sym, arith, subst, Circuit, pure, turns, scaled, top, AreNormal}
use Rattle.tv_core.proofs.NormalCircuits.{normal_then, normal_turns}
use Rattle.tv_core.proofs.NormalLaws.{IsNormalFrom-normal}
use Rattle.tv_core.specs.declared.field.TheConstants.{P}
use Rattle.tv_core.specs.declared.lines.LineLc.{LineLc}
use Rattle.tv_core.specs.declared.lines.Pair.{Pair}
use Rattle.tv_lines.proofs.NormalLaws.{follows_normal}
use Rattle.tv_lines.proofs.StartsLaws.{boot_line_sizes, least_line_sizes}
use Rattle.tv_lines.specs.PackedLines.{packed_terms}
use Rattle.tv_lines.specs.Placed.{line_in}
use Rattle.tv_argument.proofs.Made.{at, are_made}
use Rattle.tv_argument.proofs.Parts.{turns_end}
use Rattle.tv_argument.proofs.Sizes.{check_next, argument_is}
use Rattle.tv_argument.specs.Checks.{check_of, check_made, IsShortKind}
use Rattle.tv_argument.specs.Costs.{network_on}
use Rattle.tv_argument.specs.Memory.{IsMade, items_of, checks_of, MemoryIsNormal}
use Rattle.tv_argument.specs.declared.kinds.Kind.{Kind}
use Rattle.tv_argument.specs.declared.kinds.Kind.TheVariants.{ZeroOld, Least, Boot, Within}
use Rattle.tv_network.proofs.NetworkLaws.{network_normal, network_fills}
use Rattle.tv_network.specs.Network.{network_of, output_of, output_wire}
use Rattle.tv_network.specs.Switches.{IsNormalPair}
use Rattle.tv_network.specs.declared.shape.Network.{Network}

-- an item
item_normal : (next i : ℕ) (lines : List LineLc) → i < length lines → All (IsMade next) lines → IsNormalPair (items_of lines i) next
item_normal next i lines h all =
    let made = are_made next lines all i h in
    record {
      first = IsNormalFrom-normal (scaled (2 ^ 32 % P) (line_in lines i).cell);
      second = IsNormalFrom-normal (packed_terms (line_in lines i).new (line_in lines i).time);
      first_below = made.first;
      second_below = made.second;
    }

-- a check
check_normal : (kind : Kind) (next : ℕ) (item : Pair) (line : LineLc) → IsShortKind kind → 1 ≤ next → top line.cell ≤ next → top line.time ≤ next
    → top line.old ≤ next → top item.first ≤ next → top item.second ≤ next → AreNormal (check_of kind item line next).list
unfolding pure
check_normal ZeroOld next item line short some cell time old first second = tt
check_normal Least next item line short some cell time old first second = least_line_sizes.is_normal line next
check_normal (Boot c) next item line short some cell time old first second = boot_line_sizes.is_normal c item next
check_normal (Within m) next item line short some cell time old first second = follows_normal m line item next some short cell time old first second

pub memory_normal : MemoryIsNormal
memory_normal net checks lines next one short made =
    let network : Network = network_on net (length lines) in
    let piece : ℕ → Circuit (Unit {0}) = λ i. check_of (checks.kind i) (output_of network next i) (line_in lines i) in
    let first = (network_of network (items_of lines) next).next in
    let end = network_fills.ends network next (items_of lines) in
    subst (λ c. AreNormal c.list) (sym (argument_is net checks lines next))
    (normal_then (network_of network (items_of lines)) (λ _. checks_of net checks lines next) next
    (network_normal network next (items_of lines) (λ i h. item_normal next i lines h made))
    (normal_turns (λ i _. piece i) tt first (length lines)
    (λ i h.
    let line = at next lines i h made in
    let from = turns_end piece (λ i. check_made (checks.kind i)) (λ j w. check_next (checks.kind j) w (output_of network next j) (line_in lines j)) i first in
    let place = (turns i (λ i _. piece i) tt first).next in
    let out : output_wire network next i + 1 < place = omega (arith, from, end, network_fills.below network next i h) in
    check_normal (checks.kind i) place (output_of network next i) (line_in lines i) (short i h) (omega (arith, from, end))
    (omega (arith, from, end, line.cell)) (omega (arith, from, end, line.time)) (omega (arith, from, end, line.old)) (omega arith) (omega arith))))
