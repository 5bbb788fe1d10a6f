-- Items are made of wires and short, as the words are.
use Rattle.tv_core.proofs.Common.{ℕ, ◌+◌, ◌^◌, ◌<◌, ◌≤◌, arith, ◌++◌, length-append, scaled, constant, Combination}
use Rattle.tv_bits.proofs.GateLaws.{length-scaled}
use Rattle.tv_core.proofs.CombinationLaws.{top-append, top-scaled}
use Rattle.tv_core.proofs.NormalLaws.{length-normal, top-normal}
use Rattle.tv_double_argument.specs.Checks.{Lines}
use Rattle.tv_double_argument.specs.Costs.{network_on}
use Rattle.tv_double_argument.specs.Memory.{AreMade, AreShortWords, items_of}
use Rattle.tv_double_checks.specs.Items.{AreWordsMade, IsItemMade, unit}
use Rattle.tv_double_checks.specs.declared.items.CellWords.{CellWords}
use Rattle.tv_network.proofs.NetworkLaws.{network_fills}
use Rattle.tv_network.specs.Network.{network_wires, output_of}
use Rattle.tv_network.specs.Slots.{AreItems}
use Rattle.tv_network.specs.Switches.{ArePairsMade}
use Rattle.tv_network.specs.declared.shape.Network.{Network}
use Rattle.tv_stages.specs.declared.nets.Net.{Net}

pub are_made : (b wires : ℕ) (lines : Lines) → AreMade wires lines → ArePairsMade 15 (items_of b lines) lines.count wires
are_made b wires lines made i h =
    let words : CellWords = lines.old i in
    let w = made.old i h in
    let one = made.one in
    let cell : Combination = scaled (unit b) words.cell in
    let place : Combination = scaled b (constant words.place) in
    record {
      first = omega (arith, w.cell, w.sum, top-normal (cell ++ words.sum), top-append cell words.sum, top-scaled (unit b) words.cell);
      second = omega (arith, one, w.second, top-normal (place ++ words.second), top-append place words.second, top-scaled b (constant words.place));
      first_short = omega (arith, w.few.cell, w.few.sum, length-normal (cell ++ words.sum), length-append cell words.sum, length-scaled (unit b) words.cell);
      second_short = omega (
        arith,
        w.few.second,
        length-normal (place ++ words.second),
        length-append place words.second,
        length-scaled b (constant words.place),
      );
    }

-- so the network takes them
pub items_taken : (net : Net) (b wires : ℕ) (lines : Lines) → lines.count ≤ 2 ^ 20 → AreMade wires lines
    → AreItems (network_on net lines.count) (items_of b lines) lines.count wires
items_taken net b wires lines few made = record { rate = omega arith; few = omega arith; all = omega arith; made = are_made b wires lines made }

-- the gadgets take words that are short
pub words_made : (wires : ℕ) (words : CellWords) → AreShortWords wires words → AreWordsMade wires words
words_made wires words w = record {
  cell = w.cell;
  sum = w.sum;
  second = w.second;
  cell_short = omega (arith, w.few.cell);
  sum_short = omega (arith, w.few.sum);
  second_short = omega (arith, w.few.second);
}

-- also of a later sink
pub words_later : (wires more : ℕ) (words : CellWords) → wires ≤ more → AreShortWords wires words → AreWordsMade more words
words_later wires more words le w = words_made more words (record {
  cell = omega (arith, w.cell);
  sum = omega (arith, w.sum);
  second = omega (arith, w.second);
  few = w.few;
})

-- and outputs for the checks are made of the network's wires
pub output_made : (n : Network) (first i wires : ℕ) → i < n.items → first + network_wires n ≤ wires → IsItemMade wires (output_of n first i)
output_made n first i wires h below =
    let own = network_fills.below n first i h in
    record { first = omega arith; second = omega arith; first_short = omega arith; second_short = omega arith }
