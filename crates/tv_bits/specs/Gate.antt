-- An equation that a gate turns on. A gate is a combination whose value is 0 or 1.
use Rattle.std.specs.Prelude.{◌≡◌, ℕ, ◌+◌, List, [], length}
use Rattle.tv_core.specs.Circuits.{Circuit, put}
use Rattle.tv_core.specs.Combinations.{less}
use Rattle.tv_core.specs.Constraints.{Combination, value}
use Rattle.tv_core.specs.Laws.{Meets, Fills, InField}
use Rattle.tv_core.specs.Meanings.{terms_in}

-- the gate times the difference of x and y is 0
unfoldable pub gated_of : Combination → Combination → Combination → Circuit (Unit {0})
gated_of gate x y = put gate (less x y) []

-- where the gate is 1, x and y have the same value in an assignment that satisfies the constraints
abbrev pub GatedIsSound : Type 0
GatedIsSound = (z : List ℕ) (next : ℕ) (gate x y : Combination) → value gate z ≡ 1 → Meets z (gated_of gate x y next).list
    → value x z ≡ value y z

-- an assignment in which x and y have the same value satisfies the constraints, and so does one in which the gate is 0
pub record GatedIsComplete : Type 0 where
  pub same : (z : List ℕ) (next : ℕ) (gate x y : Combination) → value x z ≡ value y z → Meets z (gated_of gate x y next).list
  pub off : (z : List ℕ) (next : ℕ) (gate x y : Combination) → value gate z ≡ 0 → Meets z (gated_of gate x y next).list

-- it makes no wire, and so has no value
pub record GatedSizes : Type 0 where
  pub end : (gate x y : Combination) (next : ℕ) → (gated_of gate x y next).next ≡ next
  pub fills : (gate x y : Combination) → Fills (gated_of gate x y) []
  pub in_field : InField []

-- it has one constraint, of the terms of its three combinations
pub record GatedCosts : Type 0 where
  pub constraints : (gate x y : Combination) (next : ℕ) → length (gated_of gate x y next).list ≡ 1
  pub terms : (gate x y : Combination) (next : ℕ) → terms_in (gated_of gate x y next).list ≡ length gate + length x + length y
