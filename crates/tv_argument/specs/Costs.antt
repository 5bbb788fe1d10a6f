-- What the parts of the memory argument cost, in numbers alone.
use Rattle.std.specs.Prelude.{ℕ, ◌*◌, ◌^◌, ◌≤◌}
use Rattle.tv_core.specs.Below.{sum_below}
use Rattle.tv_argument.specs.Checks.{Checks, check_made, check_added, AreShort}
use Rattle.tv_argument.specs.declared.argument.TheConstants.{RATE}
use Rattle.tv_network.specs.Network.{network_wires}
use Rattle.tv_network.specs.declared.shape.Network.{Network}
use Rattle.tv_stages.specs.declared.nets.Net.{Net}

-- the network of so many lines
abbrev pub network_on : Net → ℕ → Network
network_on net count = record { net = net; items = count; rate = RATE }

-- the wires and the constraints of the network
abbrev pub network_made : Net → ℕ → ℕ
network_made net count = network_wires (network_on net count)

-- Checks with short reaches are cheap.
pub record ChecksAreCheap : Type 0 where
  pub few_made : (checks : Checks) (n : ℕ) → AreShort checks n → sum_below n (λ i. check_made (checks.kind i)) ≤ n * 2 ^ 6
  pub few_added : (checks : Checks) (n : ℕ) → AreShort checks n → sum_below n (λ i. check_added (checks.kind i)) ≤ n * 2 ^ 6
