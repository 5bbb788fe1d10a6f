-- A product added to a sum, as a new wire.
use Rattle.std.specs.Prelude.{◌≡◌, ℕ, ◌+◌, ◌-◌, ◌*◌, ◌%◌, List, [], ◌∷◌, ◌++◌, slice_index}
use Rattle.tv_core.specs.Circuits.{Circuit, fresh, put, pure, ◌>>=◌}
use Rattle.tv_core.specs.Combinations.{wire, scaled}
use Rattle.tv_core.specs.Constraints.{Combination, value}
use Rattle.tv_core.specs.Laws.{Assigns, Meets, HasFrom, Fills, InField}
use Rattle.tv_core.specs.declared.field.TheConstants.{P}

-- a new wire that f times g, less the terms `minus`, is
unfoldable pub closed_of : Combination → Combination → Combination → Circuit ℕ
closed_of minus f g = do
  sum ← fresh
  _ ← put f g (minus ++ wire sum)
  pure sum

-- a new wire that is x plus f times g
abbrev pub accumulated_of : Combination → Combination → Combination → Circuit ℕ
accumulated_of x f g = closed_of (scaled (P - 1) x) f g

-- the value of the wire that is made
abbrev pub accumulated_values : ℕ → ℕ → ℕ → List ℕ
accumulated_values x f g = (x + f * g) % P ∷ []

-- an assignment that meets the constraint has the sum at the returned wire
abbrev pub AccumulatedIsSound : Type 0
AccumulatedIsSound = (z : List ℕ) (next : ℕ) (x f g : Combination) → Assigns z → Meets z (accumulated_of x f g next).list
    → slice_index z (accumulated_of x f g next).answer ≡ (value x z + value f z * value g z) % P

-- an assignment that has the sum at the wire that is made meets the constraint
abbrev pub AccumulatedIsComplete : Type 0
AccumulatedIsComplete = (z : List ℕ) (next : ℕ) (x f g : Combination) → Assigns z
    → HasFrom z next (accumulated_values (value x z) (value f z) (value g z)) → Meets z (accumulated_of x f g next).list

-- which wire is returned, and that the value is one number of the field for the wire that is made
pub record AccumulatedSizes : Type 0 where
  pub answer : (x f g : Combination) (next : ℕ) → (accumulated_of x f g next).answer ≡ next
  pub end : (x f g : Combination) (next : ℕ) → (accumulated_of x f g next).next ≡ next + 1
  pub fills : (x f g : Combination) (a b c : ℕ) → Fills (accumulated_of x f g) (accumulated_values a b c)
  pub in_field : (a b c : ℕ) → InField (accumulated_values a b c)
