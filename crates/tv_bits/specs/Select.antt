-- One of two numbers, by a bit.
use Rattle.std.specs.Prelude.{◌≡◌, ℕ, ◌+◌, ◌-◌, ◌<◌, ◌≤◌, ◌==◌, if◌then◌else◌, List, [], ◌∷◌, ◌++◌, slice_index}
use Rattle.tv_bits.specs.Bit.{IsBit}
use Rattle.tv_core.specs.Circuits.{Circuit, fresh, put, pure, ◌>>=◌}
use Rattle.tv_core.specs.Combinations.{wire, scaled, less, top}
use Rattle.tv_core.specs.Constraints.{Combination, value}
use Rattle.tv_core.specs.Laws.{Assigns, Meets, HasFrom, Fills, InField}
use Rattle.tv_core.specs.Normal.{normal, IsNormal, AreNormal}
use Rattle.tv_core.specs.declared.field.TheConstants.{P}

-- x where b is 1, else y
abbrev pub selected : ℕ → ℕ → ℕ → ℕ
selected b x y = if b == 1 then x else y

-- a new wire less y: its term is the last one, as it is after the wires of y
abbrev pub wire_less : ℕ → Combination → Combination
wire_less w y = scaled (P - 1) y ++ wire w

-- a new wire that is x where b is 1, and y where it is 0: b times x less y is the wire less y. As x and y may share
-- wires, their difference is made normal
unfoldable pub pick_of : Combination → Combination → Combination → Circuit ℕ
pick_of b x y = do
  w ← fresh
  _ ← put b (normal (less x y)) (wire_less w y)
  pure w

-- such a wire, the bit being a wire
abbrev pub select_of : ℕ → Combination → Combination → Circuit ℕ
select_of b x y = pick_of (wire b) x y

-- the value of the wire that is made
abbrev pub select_values : ℕ → ℕ → ℕ → List ℕ
select_values b x y = selected b x y ∷ []

-- where b is a bit, an assignment that satisfies the constraints has at the returned wire the value that b selects
abbrev pub SelectIsSound : Type 0
SelectIsSound = (z : List ℕ) (next b : ℕ) (x y : Combination) → Assigns z → IsBit (slice_index z b) → Meets z (select_of b x y next).list
    → slice_index z (select_of b x y next).answer ≡ selected (slice_index z b) (value x z) (value y z)

-- where b is a bit, an assignment that has that value at the wire that was made satisfies the constraints
abbrev pub SelectIsComplete : Type 0
SelectIsComplete = (z : List ℕ) (next b : ℕ) (x y : Combination) → Assigns z → IsBit (slice_index z b)
    → HasFrom z next (select_values (slice_index z b) (value x z) (value y z)) → Meets z (select_of b x y next).list

-- which wire is returned, and that there is one value, a number of the field, for the wire that is made
pub record SelectSizes : Type 0 where
  pub answer : (b : ℕ) (x y : Combination) (next : ℕ) → (select_of b x y next).answer ≡ next
  pub end : (b : ℕ) (x y : Combination) (next : ℕ) → (select_of b x y next).next ≡ next + 1
  pub fills : (b : ℕ) (x y : Combination) (c v w : ℕ) → Fills (select_of b x y) (select_values c v w)
  pub in_field : (c v w : ℕ) → v < P → w < P → InField (select_values c v w)

-- ---- a choice by a combination that is a bit
-- where b is a bit, an assignment that satisfies the constraints has at the returned wire the value that b selects
abbrev pub PickIsSound : Type 0
PickIsSound = (z : List ℕ) (next : ℕ) (b x y : Combination) → Assigns z → IsBit (value b z) → Meets z (pick_of b x y next).list
    → slice_index z (pick_of b x y next).answer ≡ selected (value b z) (value x z) (value y z)

-- where b is a bit, an assignment that has that value at the wire that was made satisfies the constraints
abbrev pub PickIsComplete : Type 0
PickIsComplete = (z : List ℕ) (next : ℕ) (b x y : Combination) → Assigns z → IsBit (value b z)
    → HasFrom z next (select_values (value b z) (value x z) (value y z)) → Meets z (pick_of b x y next).list

-- which wire is returned, and that there is one value, a number of the field, for the wire that is made
pub record PickSizes : Type 0 where
  pub answer : (b x y : Combination) (next : ℕ) → (pick_of b x y next).answer ≡ next
  pub end : (b x y : Combination) (next : ℕ) → (pick_of b x y next).next ≡ next + 1
  pub fills : (b x y : Combination) (c v w : ℕ) → Fills (pick_of b x y) (select_values c v w)
  pub in_field : (c v w : ℕ) → v < P → w < P → InField (select_values c v w)

-- ---- what is put is normal
-- where b and y are normal and the wires of y are below the next one, whatever x is. A wire is normal, so this holds of
-- both forms
abbrev pub SelectIsNormal : Type 0
SelectIsNormal = (b x y : Combination) (next : ℕ) → IsNormal b → IsNormal y → top y ≤ next → AreNormal (pick_of b x y next).list
