-- Whether a combination is another number than 0.
use Rattle.std.specs.Prelude.{◌≡◌, ℕ, ◌+◌, ◌==◌, if◌then◌else◌, List, [], ◌∷◌, slice_index}
use Rattle.tv_core.specs.Circuits.{Circuit, fresh, pure, ◌>>=◌}
use Rattle.tv_core.specs.Combinations.{wire, one_less}
use Rattle.tv_core.specs.Constraints.{Combination, value}
use Rattle.tv_core.specs.Inverse.{inverse_of}
use Rattle.tv_bits.specs.Zero.{zero_cases_of}
use Rattle.tv_core.specs.Laws.{Assigns, Meets, HasFrom, Fills, InField}

-- 0 for 0, and 1 for any other number
abbrev pub nonzero_flag : ℕ → ℕ
nonzero_flag x = if x == 0 then 0 else 1

-- a wire that is 0 where x is 0, and else 1
unfoldable pub nonzero_of : Combination → Circuit ℕ
nonzero_of x = do
  flag ← fresh
  _ ← zero_cases_of x (wire flag) (one_less flag)
  pure flag

-- the values of the wires that are made: the flag, and as hint the inverse of x, or 0
abbrev pub nonzero_values : ℕ → List ℕ
nonzero_values x = nonzero_flag x ∷ inverse_of x ∷ []

-- an assignment that satisfies the constraints has the flag at the returned wire
abbrev pub NonzeroIsSound : Type 0
NonzeroIsSound = (z : List ℕ) (next : ℕ) (x : Combination) → Assigns z → Meets z (nonzero_of x next).list
    → slice_index z (nonzero_of x next).answer ≡ nonzero_flag (value x z)

-- an assignment that has these values at the wires that were made satisfies the constraints
abbrev pub NonzeroIsComplete : Type 0
NonzeroIsComplete = (z : List ℕ) (next : ℕ) (x : Combination) → Assigns z → HasFrom z next (nonzero_values (value x z))
    → Meets z (nonzero_of x next).list

-- which wire is returned, and that the values are one number of the field for each wire that is made
pub record NonzeroSizes : Type 0 where
  pub answer : (x : Combination) (next : ℕ) → (nonzero_of x next).answer ≡ next
  pub end : (x : Combination) (next : ℕ) → (nonzero_of x next).next ≡ next + 2
  pub fills : (x : Combination) (v : ℕ) → Fills (nonzero_of x) (nonzero_values v)
  pub in_field : (v : ℕ) → InField (nonzero_values v)
