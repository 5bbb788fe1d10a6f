-- Of the two halves of a word the one that a bit chooses.
use Rattle.std.specs.Prelude.{ℕ, ◌+◌, ◌/◌, ◌%◌, ◌^◌}
use Rattle.tv_bits.specs.Select.{selected, select_of}
use Rattle.tv_core.specs.Circuits.{Circuit, here, pure, ◌>>=◌}
use Rattle.tv_core.specs.Combinations.{wire}
use Rattle.tv_core.specs.Loops.{sequence}

-- the half of a number of 2 n bits that b chooses: its high half for 1, its low half for 0
abbrev pub chosen_half : ℕ → ℕ → ℕ → ℕ
chosen_half n b x = selected b (x / 2 ^ n) (x % 2 ^ n)

-- and the half that it leaves
abbrev pub other_half : ℕ → ℕ → ℕ → ℕ
other_half n b x = selected b (x % 2 ^ n) (x / 2 ^ n)

-- bit i of the half that wire b chooses, of the word from wire x on
unfoldable pub half_bit_of : ℕ → ℕ → ℕ → ℕ → Circuit (Unit {0})
half_bit_of n b x i = do
  _ ← select_of b (wire (x + (n + i))) (wire (x + i))
  pure tt

-- the n bits of that half; the first is returned
unfoldable pub halves_of : ℕ → ℕ → ℕ → Circuit ℕ
halves_of n b x = do
  first ← here
  _ ← sequence n (half_bit_of n b x)
  pure first
