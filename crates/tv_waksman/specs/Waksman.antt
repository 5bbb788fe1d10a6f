-- Waksman's network: Benes', but that each last column lacks its switch 0, whose two items pass.
use Rattle.std.specs.Prelude.{ℕ, suc, ◌^◌, Bool, List, IsPermutation}
use Rattle.tv_benes.specs.Network.{network_of, network_values, IsNetwork, AreValues, IsFilled}
use Rattle.tv_benes.specs.Through.{through, places}
use Rattle.tv_benes.specs.declared.shape.Net.TheVariants.{Waksman}
use Rattle.tv_core.specs.Laws.{Assigns, Meets, HasFrom}
use Rattle.tv_core.specs.declared.lines.Pair.{Pair}
use Rattle.tv_core.specs.declared.lines.PairNum.{PairNum}

-- the outputs are the items in another order, whatever the bits
abbrev pub ThroughWIsPermutation : Type 0
ThroughWIsPermutation = (h : ℕ) (bit : ℕ → Bool) (item : ℕ → PairNum)
    → IsPermutation (places (2 ^ suc h) item) (places (2 ^ suc h) (through Waksman h bit item))

-- an assignment that satisfies the constraints has 0 or 1 at each switch, and at the outputs what goes through
abbrev pub NetworkWIsSound : Type 0
NetworkWIsSound = (z : List ℕ) (next h : ℕ) (item : ℕ → Pair) → Assigns z → Meets z (network_of Waksman h item next).list
    → IsNetwork z Waksman h next item (network_of Waksman h item next).answer

-- an assignment that has the values for some bits satisfies the constraints, has these bits at the switches, in order, and at
-- the outputs what goes through by them, whatever numbers are the values of the items
abbrev pub NetworkWIsComplete : Type 0
NetworkWIsComplete = (z : List ℕ) (next h : ℕ) (item : ℕ → Pair) (bit : ℕ → Bool) (v : ℕ → PairNum) → Assigns z
    → AreValues z h item v → HasFrom z next (network_values Waksman h bit v) → IsFilled z Waksman h next item (record { bit = bit; number = v })
