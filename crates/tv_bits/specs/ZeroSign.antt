-- A number that is a sign where another is 0.
use Rattle.std.specs.Prelude.{◌≡◌, ℕ, ◌+◌, ◌==◌, if◌then◌else◌, List, [], ◌∷◌, length, slice_index}
use Rattle.tv_bits.specs.Ratio.{ratio}
use Rattle.tv_bits.specs.Zero.{zero_cases_of}
use Rattle.tv_core.specs.Circuits.{Circuit}
use Rattle.tv_core.specs.Combinations.{wire, less}
use Rattle.tv_core.specs.Constraints.{Combination, value}
use Rattle.tv_core.specs.Laws.{Assigns, Meets, HasFrom, Fills, InField}
use Rattle.tv_core.specs.Meanings.{terms_in}

-- the sign where y is 0, and else 0
abbrev pub sign_at_zero : ℕ → ℕ → ℕ
sign_at_zero y sign = if y == 0 then sign else 0

-- holds wire f to the sign where wire y is 0, and else to 0
unfoldable pub zero_sign_of : ℕ → ℕ → Combination → Circuit (Unit {0})
zero_sign_of y f sign = zero_cases_of (wire y) (less sign (wire f)) (wire f)

-- the value of the hint: the sign divided by y, and 0 where y is 0
abbrev pub zero_sign_values : ℕ → ℕ → List ℕ
zero_sign_values y sign = ratio y sign ∷ []

-- an assignment that satisfies the constraints has the sign at f where it has 0 at y, and else 0
abbrev pub ZeroSignIsSound : Type 0
ZeroSignIsSound = (z : List ℕ) (next y f : ℕ) (sign : Combination) → Assigns z → Meets z (zero_sign_of y f sign next).list
    → slice_index z f ≡ sign_at_zero (slice_index z y) (value sign z)

-- an assignment that has this number at f, and this value at the wire that was made, satisfies the constraints
abbrev pub ZeroSignIsComplete : Type 0
ZeroSignIsComplete = (z : List ℕ) (next y f : ℕ) (sign : Combination) → Assigns z → slice_index z f ≡ sign_at_zero (slice_index z y) (value sign z)
    → HasFrom z next (zero_sign_values (slice_index z y) (value sign z)) → Meets z (zero_sign_of y f sign next).list

-- where it ends, and that the value is one number of the field for the wire that is made
pub record ZeroSignSizes : Type 0 where
  pub end : (y f : ℕ) (sign : Combination) (next : ℕ) → (zero_sign_of y f sign next).next ≡ next + 1
  pub fills : (y f : ℕ) (sign : Combination) (v s : ℕ) → Fills (zero_sign_of y f sign) (zero_sign_values v s)
  pub in_field : (v s : ℕ) → InField (zero_sign_values v s)

-- how many constraints and terms are put
pub record ZeroSignCosts : Type 0 where
  pub constraints : (y f : ℕ) (sign : Combination) (next : ℕ) → length (zero_sign_of y f sign next).list ≡ 2
  pub terms : (y f : ℕ) (sign : Combination) (next : ℕ) → terms_in (zero_sign_of y f sign next).list ≡ length sign + 5
