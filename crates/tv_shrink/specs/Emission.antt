-- The circuit of rows: wires that are made first, and each constraint that was not dropped.
use Rattle.std.specs.Prelude.{ℕ, List, Option, None, Some, slice_index_or}
use Rattle.tv_core.specs.Circuits.{Circuit, pure, put, fresh, ◌>>=◌}
use Rattle.tv_core.specs.Constraints.{Constraint}
use Rattle.tv_core.specs.Loops.{sequence}

-- the constraint at a place, unless it was dropped
abbrev pub row_circuit : Option Constraint → Circuit (Unit {0})
row_circuit None = pure tt
row_circuit (Some c) = put c.a c.b c.c

-- how many constraints that is
abbrev pub row_count : Option Constraint → ℕ
row_count None = 0
row_count (Some c) = 1

-- the constraints of the first rows
abbrev pub rows_circuit : List (Option Constraint) → ℕ → Circuit (Unit {0})
rows_circuit rows n = sequence n (λ i. row_circuit (slice_index_or rows i None))

-- one wire, unconstrained
abbrev pub one_wire : Circuit (Unit {0})
one_wire = fresh >>= (λ _. pure tt)

-- this many wires
abbrev pub wires_circuit : ℕ → Circuit (Unit {0})
wires_circuit n = sequence n (λ _. one_wire)
