-- A new wire that times one number is another.
use Rattle.std.specs.Prelude.{◌≡◌, ℕ, ◌+◌, ◌*◌, ◌%◌, ◌<◌, List, [], ◌∷◌, slice_index}
use Rattle.tv_core.specs.Circuits.{Circuit, fresh, put, pure, ◌>>=◌}
use Rattle.tv_core.specs.Combinations.{wire}
use Rattle.tv_core.specs.Constraints.{Combination, value}
use Rattle.tv_core.specs.Inverse.{inverse_of}
use Rattle.tv_core.specs.Laws.{Assigns, Meets, HasFrom, Fills, InField}
use Rattle.tv_core.specs.declared.field.TheConstants.{P}

-- a new wire that times x is y
unfoldable pub ratio_of : Combination → Combination → Circuit ℕ
ratio_of x y = do
  w ← fresh
  _ ← put x (wire w) y
  pure w

-- the number that times a is b, where a is not 0; and 0 where it is
abbrev pub ratio : ℕ → ℕ → ℕ
ratio a b = b * inverse_of a % P

-- the value of the wire that is made
abbrev pub ratio_values : ℕ → ℕ → List ℕ
ratio_values a b = ratio a b ∷ []

-- in an assignment that satisfies the constraints, the returned wire times x is y
abbrev pub RatioIsSound : Type 0
RatioIsSound = (z : List ℕ) (next : ℕ) (x y : Combination) → Assigns z → Meets z (ratio_of x y next).list
    → value x z * slice_index z (ratio_of x y next).answer % P ≡ value y z

-- an assignment that has such a number at the wire that was made satisfies the constraints
abbrev pub RatioIsComplete : Type 0
RatioIsComplete = (z : List ℕ) (next : ℕ) (x y : Combination) (q : ℕ) → Assigns z → value x z * q % P ≡ value y z → HasFrom z next (q ∷ [])
    → Meets z (ratio_of x y next).list

-- the ratio is such a number, unless the first number is 0 and the second isn't
abbrev pub RatioDivides : Type 0
RatioDivides = (a b : ℕ) → b < P → (a % P ≡ 0 → b ≡ 0) → a * ratio a b % P ≡ b

-- which wire is returned, and that the values are one number of the field for each wire that is made
pub record RatioSizes : Type 0 where
  pub answer : (x y : Combination) (next : ℕ) → (ratio_of x y next).answer ≡ next
  pub end : (x y : Combination) (next : ℕ) → (ratio_of x y next).next ≡ next + 1
  pub fills : (x y : Combination) (a b : ℕ) → Fills (ratio_of x y) (ratio_values a b)
  pub in_field : (a b : ℕ) → InField (ratio_values a b)
