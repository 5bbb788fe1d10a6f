-- What a network's generator reads and writes: a list of the numbers at the slots.
use Rattle.std.specs.Prelude.{ℕ, Bool, List, get_or, set}
use Rattle.tv_core.specs.declared.lines.PairNum.{PairNum}
use Rattle.tv_network.specs.Switches.{passed}

-- the numbers at a slot, zeros past the end
abbrev pub pair_at : List PairNum → ℕ → PairNum
pair_at pairs x = get_or pairs x (record { first = 0; second = 0 })

-- what a switch with a bit makes of the numbers at its slots x and y
abbrev pub exchanged : Bool → ℕ → ℕ → List PairNum → List PairNum
exchanged b x y pairs = set (set pairs x (passed b (pair_at pairs x) (pair_at pairs y))) y (passed b (pair_at pairs y) (pair_at pairs x))
