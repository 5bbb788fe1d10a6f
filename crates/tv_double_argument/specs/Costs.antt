-- What the parts of the memory argument cost, in numbers alone.
use Rattle.std.specs.Prelude.{ℕ, ◌+◌, ◌-◌, ◌*◌, ◌^◌, ◌≤◌}
use Rattle.tv_core.specs.Below.{sum_below}
use Rattle.tv_double_argument.specs.Checks.{AreShort, check_added, check_made}
use Rattle.tv_double_argument.specs.declared.argument.TheConstants.{RATE}
use Rattle.tv_double_argument.specs.declared.kinds.Kind.{Kind}
use Rattle.tv_network.specs.Network.{network_wires}
use Rattle.tv_network.specs.declared.shape.Network.{Network}
use Rattle.tv_stages.specs.declared.nets.Net.{Net}

-- the network of so many lines
abbrev pub network_on : Net → ℕ → Network
network_on net count = record { net = net; items = count; rate = RATE }

-- the wires and the constraints of the network
abbrev pub network_made : Net → ℕ → ℕ
network_made net count = network_wires (network_on net count)

-- of the argument: a check for each line but the last, whose check is one constraint
abbrev pub argument_made : Net → (ℕ → Kind) → ℕ → ℕ
argument_made net kind count = network_made net count + sum_below (count - 1) (λ i. check_made (kind i))

abbrev pub argument_added : Net → (ℕ → Kind) → ℕ → ℕ
argument_added net kind count = network_made net count + sum_below (count - 1) (λ i. check_added (kind i)) + 1

-- checks with short reaches are cheap
pub record ChecksAreCheap : Type 0 where
  pub few_made : (kind : ℕ → Kind) (n : ℕ) → AreShort kind n → sum_below n (λ i. check_made (kind i)) ≤ n * 2 ^ 6
  pub few_added : (kind : ℕ → Kind) (n : ℕ) → AreShort kind n → sum_below n (λ i. check_added (kind i)) ≤ n * 2 ^ 6
