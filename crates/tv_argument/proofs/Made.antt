-- Items are made of wires and short, as the lines are.
use Rattle.tv_core.proofs.Common.{◌≡◌, ℕ, ◌+◌, ◌*◌, ◌%◌, ◌^◌, ◌<◌, ◌≤◌, List, length, All, arith, ◌++◌, length-append, length-map, scaled, Combination}
use Rattle.std.proofs.lemmas.List.Elements.{All-get_or}
use Rattle.tv_core.proofs.CombinationLaws.{top-append, top-scaled}
use Rattle.tv_core.proofs.NormalLaws.{length-normal, top-normal}
use Rattle.tv_core.specs.declared.field.TheConstants.{P}
use Rattle.tv_core.specs.declared.lines.LineLc.{LineLc}
use Rattle.tv_lines.specs.PackedLines.{packed_terms}
use Rattle.tv_lines.specs.Placed.{no_line, line_in}
use Rattle.tv_argument.specs.Memory.{IsMade, items_of}
use Rattle.tv_argument.specs.Costs.{network_on}
use Rattle.tv_lines.specs.Predecessor.{IsItemMade}
use Rattle.tv_network.proofs.NetworkLaws.{network_fills}
use Rattle.tv_network.specs.Network.{network_wires, output_of}
use Rattle.tv_network.specs.Slots.{AreItems}
use Rattle.tv_network.specs.Switches.{ArePairsMade}
use Rattle.tv_network.specs.declared.shape.Network.{Network}
use Rattle.tv_stages.specs.declared.nets.Net.{Net}

scaled_length : (x : Combination) → length (scaled (2 ^ 32 % P) x) ≡ length x
scaled_length x = length-map x (λ (t : ℕ × ℕ). ((2 ^ 32 % P) * t.0 % P, t.1))

pub at : (wires : ℕ) (lines : List LineLc) (i : ℕ) → i < length lines → All (IsMade wires) lines → IsMade wires (line_in lines i)
at wires lines i h all = All-get_or (IsMade wires) lines i no_line h all

pub are_made : (wires : ℕ) (lines : List LineLc) → All (IsMade wires) lines → ArePairsMade 15 (items_of lines) (length lines) wires
are_made wires lines all i h =
    let l = at wires lines i h all in
    let m : LineLc = line_in lines i in
    let cell : Combination = scaled (2 ^ 32 % P) m.cell in
    let time : Combination = scaled (2 ^ 32 % P) m.time in
    record {
      first = omega (arith, l.cell, top-normal cell, top-scaled (2 ^ 32 % P) m.cell);
      second = omega (arith, l.new, l.time, top-normal (m.new ++ time), top-append m.new time, top-scaled (2 ^ 32 % P) m.time);
      first_short = omega (arith, l.cell_short, length-normal cell, scaled_length m.cell);
      second_short =
          omega (arith, l.new_short, l.time_short, length-normal (packed_terms m.new m.time), length-append m.new time, scaled_length m.time);
    }

-- so the network takes them
pub items_taken : (net : Net) (wires : ℕ) (lines : List LineLc) → length lines ≤ 2 ^ 20 → All (IsMade wires) lines
    → AreItems (network_on net (length lines)) (items_of lines) (length lines) wires
items_taken net wires lines few all = record { rate = omega arith; few = omega arith; all = omega arith; made = are_made wires lines all }

-- and outputs for the checks are made of its wires
pub output_made : (n : Network) (first i wires : ℕ) → i < n.items → first + network_wires n ≤ wires → IsItemMade wires (output_of n first i)
output_made n first i wires h below =
    let own = network_fills.below n first i h in
    record { first = omega arith; second = omega arith; first_short = omega arith; second_short = omega arith }
