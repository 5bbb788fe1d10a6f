-- A row of wires of which one is 1.
use Rattle.std.specs.Prelude.{◌≡◌, ◌≢◌, ℕ, ◌+◌, ◌%◌, ◌^◌, ◌<◌, ◌≤◌, ◌==◌, if◌then◌else◌, List, [], slice_index}
use Rattle.tv_bits.specs.Bits.{HasBits, bits_combination}
use Rattle.tv_bits.specs.declared.bit_wires.Bits.{Bits}
use Rattle.tv_core.specs.Below.{each_below, weighted}
use Rattle.tv_core.specs.Circuits.{Circuit, here, fresh, put, pure, ◌>>=◌}
use Rattle.tv_core.specs.Combinations.{wire, constant, less}
use Rattle.tv_core.specs.Constraints.{Combination}
use Rattle.tv_core.specs.Laws.{Assigns, Meets, HasFrom, Fills, InField}
use Rattle.tv_core.specs.Loops.{sequence}
use Rattle.tv_core.specs.declared.field.TheConstants.{P}

-- of `count` wires from a first one on, number v holds 1 and each other one 0
pub record IsOneHot (z : List ℕ) (first count v : ℕ) : Type 0 where
  pub within : v < count
  pub hot : slice_index z (first + v) ≡ 1
  pub cold : (i : ℕ) → i < count → i ≢ v → slice_index z (first + i) ≡ 0

-- the sum of `count` wires from a first one on
abbrev pub row_sum : ℕ → ℕ → Combination
row_sum first count = weighted first count (λ _. 1)

-- 1 at v, and 0 elsewhere
abbrev pub one_at : ℕ → ℕ → ℕ
one_at v i = if i == v then 1 else 0

-- the values of the 2 ^ n wires that are made
abbrev pub onehot_values : ℕ → ℕ → List ℕ
onehot_values x n = each_below (2 ^ n) (one_at x)

-- a new wire that is 0 unless x is i: the wire times x less i is 0
unfoldable pub mark_of : Combination → ℕ → Circuit (Unit {0})
mark_of x i = do
  w ← fresh
  put (wire w) (less x (constant (i % P))) []

-- a new wire for each number that the bits may have, 0 unless they have it; the sum of the wires is 1
unfoldable pub onehot_of : Bits → Circuit ℕ
onehot_of x = do
  first ← here
  _ ← sequence (2 ^ x.n) (mark_of (bits_combination x.first x.n))
  _ ← put (row_sum first (2 ^ x.n)) (constant 1) (constant 1)
  pure first

-- in an assignment that satisfies the constraints, the wire of the number that is represented is 1, and each other one 0
abbrev pub OneHotIsSound : Type 0
OneHotIsSound = (z : List ℕ) (next : ℕ) (x : Bits) (v : ℕ) → x.n ≤ 63 → Assigns z → HasBits z x.first x.n v → Meets z (onehot_of x next).list
    → IsOneHot z (onehot_of x next).answer (2 ^ x.n) v

-- an assignment that has these values at the wires that were made satisfies the constraints
abbrev pub OneHotIsComplete : Type 0
OneHotIsComplete = (z : List ℕ) (next : ℕ) (x : Bits) (v : ℕ) → Assigns z → HasBits z x.first x.n v → HasFrom z next (onehot_values v x.n)
    → Meets z (onehot_of x next).list

-- which wire is returned, and that the values are one number of the field for each wire that is made
pub record OneHotSizes : Type 0 where
  pub answer : (x : Bits) (next : ℕ) → (onehot_of x next).answer ≡ next
  pub end : (x : Bits) (next : ℕ) → (onehot_of x next).next ≡ next + 2 ^ x.n
  pub fills : (x : Bits) (v : ℕ) → Fills (onehot_of x) (onehot_values v x.n)
  pub in_field : (v n : ℕ) → InField (onehot_values v n)
