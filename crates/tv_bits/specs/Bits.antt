-- Binary expansions: numbers and their bits.
use Rattle.std.specs.Prelude.{◌≡◌, ℕ, ◌+◌, ◌*◌, ◌%◌, ◌^◌, ◌<◌, ◌≤◌, List, slice_index}
use Rattle.std.specs.Int.{bit_at}
use Rattle.tv_bits.specs.Bit.{IsBit, bit_of}
use Rattle.tv_bits.specs.declared.bit_wires.Bits.{Bits}
use Rattle.tv_core.specs.Below.{sum_below, each_below, weighted}
use Rattle.tv_core.specs.Circuits.{Circuit, here, fresh, put, pure, ◌>>=◌}
use Rattle.tv_core.specs.Combinations.{constant}
use Rattle.tv_core.specs.Constraints.{Combination, value}
use Rattle.tv_core.specs.Laws.{Assigns, Meets, HasFrom, Fills, InField}
use Rattle.tv_core.specs.Loops.{sequence}
use Rattle.tv_core.specs.declared.field.TheConstants.{P}

-- n wires from a first one on, lowest first, each times its power of 2
abbrev pub bits_combination : ℕ → ℕ → Combination
bits_combination first n = weighted first n (λ i. 2 ^ i % P)

-- the sum of those powers, as a whole number
abbrev pub binary_value : List ℕ → ℕ → ℕ → ℕ
binary_value z first n = sum_below n (λ i. 2 ^ i * slice_index z (first + i))

-- n wires from a first one on are the binary expansion of v: each holds 0 or 1, and v is the sum of the powers of those
-- that hold 1
pub record HasBits (z : List ℕ) (first n v : ℕ) : Type 0 where
  pub bits : (i : ℕ) → i < n → IsBit (slice_index z (first + i))
  pub number : v ≡ binary_value z first n

-- the bits x are n, and their wires are below a number
pub record AreBitsBelow (wires n : ℕ) (x : Bits) : Type 0 where
  pub size : x.n ≡ n
  pub below : x.first + n ≤ wires

-- n of the bits x, from number low on
abbrev pub part : Bits → ℕ → ℕ → Bits
part x low n = record { first = x.first + low; n = n }

-- the n lowest bits of x, lowest first: the values of the wires that are made
abbrev pub bits_values : ℕ → ℕ → List ℕ
bits_values x n = each_below n (bit_at x)

-- a new wire, held to 0 or 1
unfoldable pub new_bit : Circuit (Unit {0})
new_bit = do
  w ← fresh
  bit_of w

-- n new wires, each held to 0 or 1
unfoldable pub new_bits_of : ℕ → Circuit Bits
new_bits_of n = do
  first ← here
  _ ← sequence n (λ _. new_bit)
  pure (record { first = first; n = n })

-- n new wires, the n-bit decomposition of x: each is held to 0 or 1, and the sum of their powers of 2 is x
unfoldable pub bits_of : Combination → ℕ → Circuit Bits
bits_of x n = do
  made ← new_bits_of n
  _ ← put (bits_combination made.first made.n) (constant 1) x
  pure made

-- an assignment that satisfies the constraints has 0 or 1 at each wire: the bits of some number
abbrev pub NewBitsAreSound : Type 0
NewBitsAreSound = (z : List ℕ) (next n : ℕ) → Assigns z → Meets z (new_bits_of n next).list
    → HasBits z (new_bits_of n next).answer.first n (binary_value z (new_bits_of n next).answer.first n)

-- an assignment that has some number's bits at the wires that were made satisfies the constraints
abbrev pub NewBitsAreComplete : Type 0
NewBitsAreComplete = (z : List ℕ) (next n x : ℕ) → Assigns z → HasFrom z next (bits_values x n)
    → Meets z (new_bits_of n next).list

-- in an assignment that satisfies the constraints the wires have the bits of the value, as a whole number
abbrev pub BitsAreSound : Type 0
BitsAreSound = (z : List ℕ) (next : ℕ) (x : Combination) (n : ℕ) → n ≤ 63 → Assigns z → Meets z (bits_of x n next).list
    → HasBits z (bits_of x n next).answer.first n (value x z)

-- where the value is below 2 ^ n, an assignment that has its bits at the wires that were made satisfies the constraints
abbrev pub BitsAreComplete : Type 0
BitsAreComplete = (z : List ℕ) (next : ℕ) (x : Combination) (n : ℕ) → value x z < 2 ^ n → Assigns z
    → HasFrom z next (bits_values (value x z) n) → Meets z (bits_of x n next).list

-- which wires are returned, and that the values are one number of the field for each wire that is made
pub record NewBitsSizes : Type 0 where
  pub answer : (n next : ℕ) → (new_bits_of n next).answer ≡ record { first = next; n = n }
  pub end : (n next : ℕ) → (new_bits_of n next).next ≡ next + n
  pub fills : (n v : ℕ) → Fills (new_bits_of n) (bits_values v n)
  pub in_field : (n v : ℕ) → InField (bits_values v n)

pub record BitsSizes : Type 0 where
  pub answer : (x : Combination) (n next : ℕ) → (bits_of x n next).answer ≡ record { first = next; n = n }
  pub end : (x : Combination) (n next : ℕ) → (bits_of x n next).next ≡ next + n
  pub fills : (x : Combination) (n v : ℕ) → Fills (bits_of x n) (bits_values v n)
  pub in_field : (n v : ℕ) → InField (bits_values v n)
