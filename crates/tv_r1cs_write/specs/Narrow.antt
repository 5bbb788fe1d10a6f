-- Constraints that the format can hold.
use Rattle.std.specs.Prelude.{ℕ, ◌<◌, ◌≤◌, length}
use Rattle.std.specs.List.{All}
use Rattle.tv_core.specs.Constraints.{Combination, Constraint}
use Rattle.tv_core.specs.declared.field.TheConstants.{P}

-- a combination of at most 1,048,576 terms, whose coefficients are numbers of the field
pub record IsShort (x : Combination) : Type 0 where
  pub terms : length x ≤ 1048576
  pub canonical : All (λ t. t.0 < P) x

-- a constraint of such combinations
pub record AreShort (row : Constraint) : Type 0 where
  pub a : IsShort row.a
  pub b : IsShort row.b
  pub c : IsShort row.c

-- each wire of a combination is below a number
abbrev pub HasWiresBelow : ℕ → Combination → Type 0
HasWiresBelow wires x = All (λ t. t.1 < wires) x

-- a constraint that a system of this many wires can have
pub record IsNarrow (wires : ℕ) (row : Constraint) : Type 0 where
  pub short : AreShort row
  pub a : HasWiresBelow wires row.a
  pub b : HasWiresBelow wires row.b
  pub c : HasWiresBelow wires row.c
