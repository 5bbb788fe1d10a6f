-- A number in two parts: a word, and what is above it.
use Rattle.std.specs.Prelude.{◌≡◌, ℕ, ◌+◌, ◌-◌, ◌/◌, ◌%◌, ◌^◌, ◌<◌, ◌≤◌, List}
use Rattle.tv_bits.specs.Bits.{HasBits, bits_of, bits_values}
use Rattle.tv_bits.specs.declared.bit_wires.Bits.{Bits}
use Rattle.tv_core.specs.Circuits.{Circuit, pure, ◌>>=◌}
use Rattle.tv_core.specs.Constraints.{Combination, value}
use Rattle.tv_core.specs.Laws.{Assigns, Meets, HasFrom, Fills, InField}
use Rattle.tv_limb.specs.declared.parts.Split.{Split}

-- the lowest w of the bits, and those above
abbrev pub split_at : ℕ → Bits → Split
split_at w x = record { low = record { first = x.first; n = w }; high = record { first = x.first + w; n = x.n - w } }

-- the w wires of the low part represent one number, and the m wires of the high part another
pub record HasPartBits (w m : ℕ) (z : List ℕ) (parts : Split) (v above : ℕ) : Type 0 where
  pub low : HasBits z parts.low.first w v
  pub high : HasBits z parts.high.first m above

-- the n-bit decomposition of x into new wires, as the lowest w and those above
unfoldable pub split_of : ℕ → Combination → ℕ → Circuit Split
split_of w x n = do
  made ← bits_of x n
  pure (split_at w made)

-- the values of the wires that are made: the n lowest bits
abbrev pub split_values : ℕ → ℕ → List ℕ
split_values x n = bits_values x n

-- in an assignment that satisfies the constraints the parts represent the value's remainder and quotient by 2 ^ w
abbrev pub SplitIsSound : Type 0
SplitIsSound = (w : ℕ) (z : List ℕ) (next : ℕ) (x : Combination) (n : ℕ) → w ≤ n → n ≤ 63 → Assigns z → Meets z (split_of w x n next).list
    → HasPartBits w (n - w) z (split_of w x n next).answer (value x z % 2 ^ w) (value x z / 2 ^ w)

-- where the value is below 2 ^ n, an assignment that has its bits at the wires that were made satisfies the constraints
abbrev pub SplitIsComplete : Type 0
SplitIsComplete = (w : ℕ) (z : List ℕ) (next : ℕ) (x : Combination) (n : ℕ) → value x z < 2 ^ n → Assigns z
    → HasFrom z next (split_values (value x z) n) → Meets z (split_of w x n next).list

-- what the circuit returns and where it ends; it has one value for each wire that it makes, all in the field
pub record SplitSizes : Type 0 where
  pub answer : (w : ℕ) (x : Combination) (n next : ℕ) → (split_of w x n next).answer ≡ split_at w (record { first = next; n = n })
  pub end : (w : ℕ) (x : Combination) (n next : ℕ) → (split_of w x n next).next ≡ next + n
  pub fills : (w : ℕ) (x : Combination) (n v : ℕ) → Fills (split_of w x n) (split_values v n)
  pub in_field : (v n : ℕ) → InField (split_values v n)
