-- Two products of bits in one constraint.
use Rattle.std.specs.Prelude.{◌≡◌, ℕ, ◌+◌, ◌-◌, ◌*◌, ◌%◌, ◌++◌, List, []}
use Rattle.tv_bits.specs.Bit.{IsBit}
use Rattle.tv_core.specs.Circuits.{Circuit, put}
use Rattle.tv_core.specs.Combinations.{constant, scaled}
use Rattle.tv_core.specs.Constraints.{Combination, value}
use Rattle.tv_core.specs.Laws.{Assigns, Meets, Fills, InField}
use Rattle.tv_core.specs.declared.field.TheConstants.{P}

-- the product of a first pair of bits, and γ² times that of a second pair
abbrev pub two_ands : ℕ → ℕ → ℕ → ℕ → ℕ → ℕ
two_ands x_a y_a x_b y_b γ = (x_a * y_a + γ * γ * (x_b * y_b)) % P

-- x + k y
abbrev pub plus_times : Combination → ℕ → Combination → Combination
plus_times x k y = x ++ scaled k y

-- the coefficient that is k negated
abbrev pub negative : ℕ → ℕ
negative k = (P - k % P) % P

-- x_a + y_a + c (1 + k x_b - y_b)
abbrev pub side : Combination → Combination → Combination → Combination → ℕ → ℕ → Combination
side x_a y_a x_b y_b c k = plus_times (plus_times ((constant c ++ x_a) ++ y_a) (c * k % P) x_b) (negative c) y_b

-- m is two ands, where the four others are bits: with u = x_a + y_a and v = x_b + 1 - y_b it says that
-- u + γ v times u - γ v is u - γ² (3 x_b + 1 - y_b) + 2 m
unfoldable pub two_ands_of : Combination → Combination → Combination → Combination → ℕ → Combination → Circuit (Unit {0})
two_ands_of x_a y_a x_b y_b γ m =
    put (side x_a y_a x_b y_b γ 1) (side x_a y_a x_b y_b (negative γ) 1) (plus_times (side x_a y_a x_b y_b (negative (γ * γ)) 3) 2 m)

-- in an assignment that satisfies the constraints, m is two ands, the four being bits
abbrev pub TwoAndsAreSound : Type 0
TwoAndsAreSound = (z : List ℕ) (next : ℕ) (x_a y_a x_b y_b : Combination) (γ : ℕ) (m : Combination) → Assigns z
    → IsBit (value x_a z) → IsBit (value y_a z) → IsBit (value x_b z) → IsBit (value y_b z)
    → Meets z (two_ands_of x_a y_a x_b y_b γ m next).list
    → value m z ≡ two_ands (value x_a z) (value y_a z) (value x_b z) (value y_b z) γ

-- an assignment in which m is two ands satisfies the constraints, the four being bits
abbrev pub TwoAndsAreComplete : Type 0
TwoAndsAreComplete = (z : List ℕ) (next : ℕ) (x_a y_a x_b y_b : Combination) (γ : ℕ) (m : Combination) → Assigns z
    → IsBit (value x_a z) → IsBit (value y_a z) → IsBit (value x_b z) → IsBit (value y_b z)
    → value m z ≡ two_ands (value x_a z) (value y_a z) (value x_b z) (value y_b z) γ
    → Meets z (two_ands_of x_a y_a x_b y_b γ m next).list

-- it makes no wire, and so has no value
pub record TwoAndsSizes : Type 0 where
  pub end : (x_a y_a x_b y_b : Combination) (γ : ℕ) (m : Combination) (next : ℕ) → (two_ands_of x_a y_a x_b y_b γ m next).next ≡ next
  pub fills : (x_a y_a x_b y_b : Combination) (γ : ℕ) (m : Combination) → Fills (two_ands_of x_a y_a x_b y_b γ m) []
  pub in_field : InField []
