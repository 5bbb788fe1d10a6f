-- The verdict on a system, an assignment and the public numbers that it is to extend: the first of
-- these that is wrong is named: the number of values, a public wire, a constraint.
use Rattle.std.specs.Prelude.{ℕ, suc, ◌+◌, ◌≤◌, List, [], ◌∷◌, length, take, Option, Some, None, Result, Ok, ◌==◌, if◌then◌else◌}
use Rattle.std.specs.Option.{option_map}
use Rattle.tv_core.specs.Constraints.{System}
use Rattle.tv_core.specs.Meanings.{first_failure}
use Rattle.tv_container.specs.Places.{Fault, ◌>>=◌}
use Rattle.tv_r1cs_read.specs.R1cs.{r1cs_system}
use Rattle.tv_check.specs.declared.verdict.Verdict.{Verdict}
use Rattle.tv_check.specs.declared.verdict.Verdict.TheVariants.{Yes, WireCount, NoPublic, NoConstraint}

-- there is a wire for the constant 1 and each public number
abbrev pub HasRoom : System → Type 0
HasRoom system = 1 + system.outputs + system.inputs ≤ system.wires

-- the least place where two lists differ; a place in one list alone differs
abbrev pub first_difference : List ℕ → List ℕ → Option ℕ
first_difference [] [] = None
first_difference [] (_ ∷ _) = Some 0
first_difference (_ ∷ _) [] = Some 0
first_difference (x ∷ xs) (y ∷ ys) = if x == y then option_map suc (first_difference xs ys) else Some 0

-- the verdict by the first constraint that fails, where one does
abbrev pub constraint_verdict : Option ℕ → Verdict
constraint_verdict None = Yes
constraint_verdict (Some at) = NoConstraint at

-- the verdict by the first public wire that differs, where one does; else by the others
abbrev pub public_verdict : Option ℕ → Verdict → Verdict
public_verdict None others = others
public_verdict (Some at) _ = NoPublic at

-- the values are compared with the wires by number, the list 1, x with the value of wire 0 and the
-- public values, and then each constraint is tried
abbrev pub judge : System → List ℕ → List ℕ → Verdict
judge system z x =
    if length z == system.wires
    then public_verdict (first_difference (1 ∷ x) (take (1 + system.outputs + system.inputs) z))
    (constraint_verdict (first_failure z 0 system.constraints))
    else WireCount (length z) system.wires

-- the verdict by the system that a file holds, or the file's first fault
unfoldable pub verdict_of : List ℕ → List ℕ → List ℕ → Result Verdict Fault
verdict_of file z x = do
  system ← r1cs_system file
  Ok (judge system z x)
