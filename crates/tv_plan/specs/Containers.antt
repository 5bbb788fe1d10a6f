-- The files of systems and of assignments.
use Rattle.std.specs.Prelude.{ℕ, List, Result, Ok, Err}
use Rattle.tv_check.specs.Verdict.{verdict_of}
use Rattle.tv_check.specs.declared.verdict.Verdict.{Verdict}
use Rattle.tv_core.specs.Constraints.{System}
use Rattle.tv_core.specs.declared.lines.Counts.{Counts}
use Rattle.tv_container.specs.Places.{Fault}
use Rattle.tv_r1cs_read.specs.R1cs.{r1cs_system}
use Rattle.tv_r1cs_read.specs.Survey.{survey_of}
use Rattle.tv_container.specs.declared.why.ReadRefusal.{ReadRefusal}
use Rattle.tv_container.specs.declared.why.ReadRefusal.TheVariants as refusal
use Rattle.tv_wtns.specs.Wtns.{Firsts, firsts, assignment_of}
use Rattle.tv_plan.specs.declared.refusal.Bad.{Bad}
use Rattle.tv_plan.specs.declared.refusal.Bad.TheVariants as bad
use Rattle.tv_plan.specs.declared.refusal.Stop.{Stop}
use Rattle.tv_plan.specs.declared.refusal.Stop.TheVariants as stop

-- what a fault of a system's file is, and of a witness file
abbrev pub system_bad : Fault → Bad
system_bad fault = bad.System fault.at fault.why

abbrev pub witness_bad : Fault → Bad
witness_bad fault = bad.Witness fault.at fault.why

-- what is found of a container, by what its faults are
abbrev pub container_result : {A : Type 0} → (Fault → Bad) → Result A Fault → Result A Bad
container_result bad (Ok x) = Ok x
container_result bad (Err fault) = Err (bad fault)

-- the file of a system, and of an assignment, which may have any size
abbrev pub system_in : List ℕ → Result System Bad
system_in file = container_result system_bad (r1cs_system file)

abbrev pub witness_in : List ℕ → Result (List ℕ) Bad
witness_in file = container_result witness_bad (assignment_of file)

-- what the system of a file counts, and the verdict on it of these values and public numbers
abbrev pub counts_in : List ℕ → Result Counts Bad
counts_in file = container_result system_bad (survey_of file)

abbrev pub verdict_in : List ℕ → List ℕ → List ℕ → Result Verdict Bad
verdict_in z x file = container_result system_bad (verdict_of file z x)

-- at most this many first values of an assignment, and how many it has
abbrev pub firsts_in_witness : ℕ → List ℕ → Result Firsts Bad
firsts_in_witness most file = container_result witness_bad (firsts most (assignment_of file))

-- what a refused reading of the container at a word is
abbrev pub refusal_stop : ℕ → (Fault → Bad) → ReadRefusal → Stop
refusal_stop word bad (refusal.Bad at why) = stop.Contents (bad (record { at = at; why = why }))
refusal_stop word bad refusal.Fault = stop.Fault word
refusal_stop word bad refusal.Memory = stop.Memory
