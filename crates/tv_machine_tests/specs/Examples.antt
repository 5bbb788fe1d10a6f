-- Small systems that show what the definitions mean.
use Rattle.std.specs.Prelude.{[], ◌∷◌}
use Rattle.tv_core.specs.Constraints.{System, Constraint}

-- wire 1 times wire 2 is wire 3
abbrev pub product : Constraint
product = record { a = (1, 1) ∷ []; b = (1, 2) ∷ []; c = (1, 3) ∷ [] }

-- a system of four wires, the first being 1 and the others private, with that constraint
abbrev pub one_product : System
one_product = record { wires = 4; outputs = 0; inputs = 0; constraints = product ∷ [] }
