-- A system's solutions and those of the shrunk one.
use Rattle.std.specs.Prelude.{◌≡◌, ◌↔◌, ℕ, ◌+◌, ◌≤◌, List, take, IfOk}
use Rattle.std.specs.List.{All, range_with_len}
use Rattle.tv_core.specs.Constraints.{Constraint, System, Sat}
use Rattle.tv_r1cs_read.specs.R1cs.{r1cs_system}
use Rattle.tv_r1cs_write.specs.Narrow.{HasWiresBelow}
use Rattle.tv_shrink.specs.Shrunk.{shrink, at_wires}

-- each wire of a constraint is
pub record AreOver (wires : ℕ) (row : Constraint) : Type 0 where
  pub a : HasWiresBelow wires row.a
  pub b : HasWiresBelow wires row.b
  pub c : HasWiresBelow wires row.c

-- there is a wire for the constant 1 and each public number, and the constraints are of wires that there are
pub record IsWhole (system : System) : Type 0 where
  pub publics : 1 + system.outputs + system.inputs ≤ system.wires
  pub within : All (AreOver system.wires) system.constraints

-- the constraints of a system that a file holds are of wires that there are
abbrev pub SystemsAreOver : Type 0
SystemsAreOver = (file : List ℕ) → IfOk (r1cs_system file) (λ system. All (AreOver system.wires) system.constraints)

-- the assignments that satisfy the shrunk system are those that some assignment which satisfies the system
-- has at the kept wires
abbrev pub KeepsSolutions : Type 0
KeepsSolutions = (system : System) → IsWhole system → (small : List ℕ) →
    Sat (shrink system).system small ↔ ((z : List ℕ) × Sat system z × (small ≡ at_wires (shrink system).labels z))

-- which is the only one
abbrev pub SolutionsAreOne : Type 0
SolutionsAreOne = (system : System) → IsWhole system → (y z : List ℕ) → Sat system y → Sat system z →
    at_wires (shrink system).labels y ≡ at_wires (shrink system).labels z → y ≡ z

-- wire 0 and the public wires keep their numbers
abbrev pub KeepsPublics : Type 0
KeepsPublics = (system : System) → IsWhole system →
    take (1 + system.outputs + system.inputs) (shrink system).labels ≡ range_with_len 0 (1 + system.outputs + system.inputs)
