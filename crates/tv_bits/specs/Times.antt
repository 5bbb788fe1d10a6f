-- A product as a new wire, and a value kept as one.
use Rattle.std.specs.Prelude.{◌≡◌, ℕ, ◌+◌, ◌*◌, ◌%◌, ◌<◌, List, [], ◌∷◌, slice_index}
use Rattle.tv_core.specs.Circuits.{Circuit, fresh, put, pure, ◌>>=◌}
use Rattle.tv_core.specs.Combinations.{wire, constant}
use Rattle.tv_core.specs.Constraints.{Combination, value}
use Rattle.tv_core.specs.Laws.{Assigns, Meets, HasFrom, Fills, InField}
use Rattle.tv_core.specs.declared.field.TheConstants.{P}

-- ---- a product
-- a new wire that is x times y
unfoldable pub times_of : Combination → Combination → Circuit ℕ
times_of x y = do
  m ← fresh
  _ ← put x y (wire m)
  pure m

-- the value of the wire that is made
abbrev pub times_values : ℕ → ℕ → List ℕ
times_values a b = a * b % P ∷ []

-- an assignment that satisfies the constraints has the product at the returned wire
abbrev pub TimesIsSound : Type 0
TimesIsSound = (z : List ℕ) (next : ℕ) (x y : Combination) → Assigns z → Meets z (times_of x y next).list
    → slice_index z (times_of x y next).answer ≡ value x z * value y z % P

-- an assignment that has the product at the wire that was made satisfies the constraints
abbrev pub TimesIsComplete : Type 0
TimesIsComplete = (z : List ℕ) (next : ℕ) (x y : Combination) → Assigns z → HasFrom z next (times_values (value x z) (value y z))
    → Meets z (times_of x y next).list

-- which wire is returned, and that the values are one number of the field for each wire that is made
pub record TimesSizes : Type 0 where
  pub answer : (x y : Combination) (next : ℕ) → (times_of x y next).answer ≡ next
  pub end : (x y : Combination) (next : ℕ) → (times_of x y next).next ≡ next + 1
  pub fills : (x y : Combination) (a b : ℕ) → Fills (times_of x y) (times_values a b)
  pub in_field : (a b : ℕ) → InField (times_values a b)

-- ---- a value kept
-- a new wire that is x: x times 1 is the wire
abbrev pub kept_of : Combination → Circuit ℕ
kept_of x = times_of x (constant 1)

-- the value of the wire that is made
abbrev pub kept_values : ℕ → List ℕ
kept_values v = v ∷ []

-- in an assignment that satisfies the constraints the wire holds the value
abbrev pub KeptIsSound : Type 0
KeptIsSound = (z : List ℕ) (next : ℕ) (x : Combination) → Assigns z → Meets z (kept_of x next).list → slice_index z (kept_of x next).answer ≡ value x z

-- an assignment that has the value at the wire that was made satisfies the constraints
abbrev pub KeptIsComplete : Type 0
KeptIsComplete = (z : List ℕ) (next : ℕ) (x : Combination) → Assigns z → HasFrom z next (kept_values (value x z)) → Meets z (kept_of x next).list

-- which wire is returned, and that the values are one number of the field for each wire that is made
pub record KeptSizes : Type 0 where
  pub answer : (x : Combination) (next : ℕ) → (kept_of x next).answer ≡ next
  pub end : (x : Combination) (next : ℕ) → (kept_of x next).next ≡ next + 1
  pub fills : (x : Combination) (v : ℕ) → Fills (kept_of x) (kept_values v)
  pub in_field : (v : ℕ) → v < P → InField (kept_values v)
