-- Rank-1 constraints over the integers modulo P, as the literature on arguments for circuits has them:
-- an assignment z satisfies <A,z> * <B,z> = <C,z> modulo P, and z begins with the constant 1.
use Rattle.std.specs.Prelude.{◌≡◌, ℕ, ◌+◌, ◌*◌, ◌%◌, ◌<◌, List, All, Some, slice_get, slice_index, length, take, drop}
use Rattle.std.specs.List.{sum_by}
use Rattle.tv_core.specs.declared.field.TheConstants.{P}

-- a linear combination: its terms, each a coefficient and the number of a wire, in order;
-- a wire that occurs twice adds up
abbrev pub Combination : Type 0
Combination = List (ℕ × ℕ)

-- the value of a combination under an assignment, modulo P: the sum of coefficient times the wire's number
abbrev pub value : Combination → List ℕ → ℕ
value combination z = sum_by (λ t. t.0 * slice_index z t.1) combination % P

-- a rank-1 constraint: value a * value b = value c
pub record Constraint : Type 0 where
  pub a : Combination
  pub b : Combination
  pub c : Combination

-- the assignment meets the constraint
abbrev pub Holds : Constraint → List ℕ → Type 0
Holds constraint z = value constraint.a z * value constraint.b z % P ≡ value constraint.c z

-- a constraint system: how many wires there are, of which wire 0 is the constant 1, the next are the
-- public outputs, then the public inputs, and the rest are private; and the constraints, in order
pub record System : Type 0 where
  pub wires : ℕ
  pub outputs : ℕ
  pub inputs : ℕ
  pub constraints : List Constraint

-- z satisfies the system: a number below P for each wire, the constant 1 first, and each constraint holds
pub record Sat (system : System) (z : List ℕ) : Type 0 where
  pub each_wire : length z ≡ system.wires
  pub below : All (λ v. v < P) z
  pub one : slice_get z 0 ≡ Some 1
  pub holds : All (λ constraint. Holds constraint z) system.constraints

-- z extends the public numbers x: the system has as many public wires as x has numbers, and z has
-- x directly after its first number
pub record Extends (system : System) (z : List ℕ) (x : List ℕ) : Type 0 where
  pub publics : system.outputs + system.inputs ≡ length x
  pub values : take (length x) (drop 1 z) ≡ x
