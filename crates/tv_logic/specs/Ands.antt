-- The bitwise and of two words, two bits in a constraint.
use Rattle.std.specs.Prelude.{ℕ, ◌+◌, ◌-◌, ◌*◌, ◌/◌, ◌^◌, List, ◌∷◌}
use Rattle.std.specs.Int.{bit_at}
use Rattle.tv_bits.specs.Bits.{bits_combination}
use Rattle.tv_bits.specs.Pairs.{plus_times, two_ands_of}
use Rattle.tv_bits.specs.declared.bit_wires.Bits.{Bits}
use Rattle.tv_core.specs.Below.{each_below}
use Rattle.tv_core.specs.Circuits.{Circuit, here, fresh, pure, ◌>>=◌}
use Rattle.tv_core.specs.Combinations.{wire}
use Rattle.tv_core.specs.Constraints.{Combination}
use Rattle.tv_core.specs.Loops.{sequence}
use Rattle.tv_core.specs.declared.field.TheConstants.{P}

-- pair number i of a number: its bit i, and 2 ^ (w / 2) times its bit i + w / 2. The number is the sum of
-- 2 ^ i times pair i, for i below w / 2
abbrev pub pair_in : ℕ → ℕ → ℕ → ℕ
pair_in w a i = bit_at a i + 2 ^ (w / 2) * bit_at a (w / 2 + i)

-- holds m to pair number i of the and of x and y
unfoldable pub and_pair_of : ℕ → Bits → Bits → ℕ → Combination → Circuit (Unit {0})
and_pair_of w x y i m =
    two_ands_of (wire (x.first + i)) (wire (y.first + i)) (wire (x.first + (w / 2 + i))) (wire (y.first + (w / 2 + i))) (2 ^ (w / 4)) m

-- a new wire for the pair after number i
unfoldable pub new_and_pair_of : ℕ → Bits → Bits → ℕ → Circuit (Unit {0})
new_and_pair_of w x y i = do
  m ← fresh
  and_pair_of w x y (i + 1) (wire m)

-- what is left of the word for pair 0, the wires of the later pairs following each other
abbrev pub lowest_pair : ℕ → ℕ → ℕ → Combination
lowest_pair w word first = plus_times (wire word) (P - 2) (bits_combination first (w / 2 - 1))

-- a new wire that is the and of x and y, and one for each pair but the lowest, which needs none
unfoldable pub and_of : ℕ → Bits → Bits → Circuit ℕ
and_of w x y = do
  word ← fresh
  first ← here
  _ ← sequence (w / 2 - 1) (new_and_pair_of w x y)
  _ ← and_pair_of w x y 0 (lowest_pair w word first)
  pure word

-- the values of the wires that are made for the pairs of a number
abbrev pub pair_values : ℕ → ℕ → List ℕ
pair_values w a = each_below (w / 2 - 1) (λ i. pair_in w a (i + 1))

-- the values of the wires that are made, for an and that is a
abbrev pub and_values : ℕ → ℕ → List ℕ
and_values w a = a ∷ pair_values w a
