-- What the laws of circuits speak of: assignments, and what they have at a circuit's wires.
use Rattle.std.specs.Prelude.{◌≡◌, ℕ, ◌+◌, ◌<◌, List, [], ◌∷◌, length, All, slice_index}
use Rattle.std.specs.List.{AllByRecursion}
use Rattle.tv_core.specs.Circuits.{Circuit}
use Rattle.tv_core.specs.Constraints.{Constraint, Holds}
use Rattle.tv_core.specs.declared.field.TheConstants.{P}

-- z assigns numbers below P to the wires, and 1 to the first
pub record Assigns (z : List ℕ) : Type 0 where
  pub below : All (λ v. v < P) z
  pub one : slice_index z 0 ≡ 1

-- z meets each constraint of a list
abbrev pub Meets : List ℕ → List Constraint → Type 0
Meets z list = AllByRecursion (λ constraint. Holds constraint z) list

-- z has these numbers at the wires from a first one on
abbrev pub HasFrom : List ℕ → ℕ → List ℕ → Type 0
HasFrom z first [] = Unit {0}
HasFrom z first (v ∷ rest) = (slice_index z first ≡ v) × HasFrom z (first + 1) rest

-- a circuit makes one wire for each number of a list, whatever the next wire is
abbrev pub Fills : {A : Type 0} → Circuit A → List ℕ → Type 0
Fills circuit values = (next : ℕ) → (circuit next).next ≡ next + length values

-- each number of a list is a number of the field
abbrev pub InField : List ℕ → Type 0
InField values = All (λ v. v < P) values
