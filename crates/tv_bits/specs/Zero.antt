-- Whether a combination is 0.
use Rattle.std.specs.Prelude.{◌≡◌, ℕ, ◌+◌, ◌==◌, if◌then◌else◌, List, [], ◌∷◌, slice_index}
use Rattle.tv_core.specs.Constraints.{Combination, value}
use Rattle.tv_core.specs.Combinations.{wire, one_less}
use Rattle.tv_core.specs.Circuits.{Circuit, fresh, put, pure, ◌>>=◌}
use Rattle.tv_core.specs.Inverse.{inverse_of}
use Rattle.tv_core.specs.Laws.{Assigns, Meets, HasFrom, Fills, InField}

-- 1 for 0, and 0 for any other number
abbrev pub zero_flag : ℕ → ℕ
zero_flag x = if x == 0 then 1 else 0

-- u is 0 where x is 0, and v where it isn't: x times a hint is u, and x times v is 0
unfoldable pub zero_cases_of : Combination → Combination → Combination → Circuit (Unit {0})
zero_cases_of x u v = do
  hint ← fresh
  _ ← put x (wire hint) u
  put x v []

-- a wire that is 1 where x is 0, and else 0
unfoldable pub zero_of : Combination → Circuit ℕ
zero_of x = do
  flag ← fresh
  _ ← zero_cases_of x (one_less flag) (wire flag)
  pure flag

-- the values of the wires that are made: the flag, and as hint the inverse of x, or 0
abbrev pub zero_values : ℕ → List ℕ
zero_values x = zero_flag x ∷ inverse_of x ∷ []

-- an assignment that satisfies the constraints has the flag at the returned wire
abbrev pub ZeroIsSound : Type 0
ZeroIsSound = (z : List ℕ) (next : ℕ) (x : Combination) → Assigns z → Meets z (zero_of x next).list
    → slice_index z (zero_of x next).answer ≡ zero_flag (value x z)

-- an assignment that has these values at the wires that were made satisfies the constraints
abbrev pub ZeroIsComplete : Type 0
ZeroIsComplete = (z : List ℕ) (next : ℕ) (x : Combination) → Assigns z → HasFrom z next (zero_values (value x z))
    → Meets z (zero_of x next).list

-- which wire is returned, and that the values are one number of the field for each wire that is made
pub record ZeroSizes : Type 0 where
  pub answer : (x : Combination) (next : ℕ) → (zero_of x next).answer ≡ next
  pub end : (x : Combination) (next : ℕ) → (zero_of x next).next ≡ next + 2
  pub fills : (x : Combination) (v : ℕ) → Fills (zero_of x) (zero_values v)
  pub in_field : (v : ℕ) → InField (zero_values v)
