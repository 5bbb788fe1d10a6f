-- A program and an assignment of its system, which `extract` and `listing` read, and the run that it has.
use Rattle.std.specs.Prelude.{◌≡◌, ℕ, ◌==◌, List, [], ◌∷◌, ◌++◌, Option, Result, Ok, Err, IfOk, if◌then◌else◌}
use Rattle.tv_stages.specs.declared.nets.Net.{Net}
use Rattle.tv_core.specs.Constraints.{Sat}
use Rattle.tv_extract.specs.Extraction.{run_in}
use Rattle.tv_extract.specs.Runs.{IsRunOf, HasRunIn}
use Rattle.tv_extract.specs.declared.run.ExtractFault.{ExtractFault}
use Rattle.tv_extract.specs.declared.run.ExtractFault.TheVariants as faults
use Rattle.tv_step.specs.declared.not_run.NotRun.{NotRun}
use Rattle.tv_step.specs.declared.not_run.NotRun.TheVariants.{WireCount, WideWire, NotARun}
use Rattle.tv_extract.specs.declared.run.Run.{Run}
use Rattle.tv_files.specs.Outside.{Names}
use Rattle.tv_wtns.specs.Wtns.{Firsts, firsts_in}
use Rattle.tv_top.specs.declared.assignment.Assignment.{Assignment}
use Rattle.tv_plan.specs.declared.programs.Program.{Program}
use Rattle.tv_plan.specs.declared.refusal.Bad.{Bad}
use Rattle.tv_plan.specs.declared.refusal.Finish.{Finish}
use Rattle.tv_plan.specs.declared.refusal.Finish.TheVariants as finishes
use Rattle.tv_plan.specs.declared.refusal.Stop.{Stop}
use Rattle.tv_plan.specs.declared.refusal.Stop.TheVariants.{Memory}
use Rattle.tv_top.specs.Build.{program_system, program_runs}
use Rattle.tv_plan.specs.Claims.{Holds, Then}
use Rattle.tv_plan.specs.Containers.{firsts_in_witness, witness_in}
use Rattle.tv_plan.specs.Flaws.{Flaw, Flaw.{OfWitness}}
use Rattle.tv_plan.specs.Plan.{Named, Outcome, Look, ◌>>=◌, settled, input}
use Rattle.tv_plan.specs.Programs.{program_in, program_flaws}

-- a program, and an assignment of its system
pub record Assigned : Type 0 where
  pub program : Program
  pub z : List ℕ

-- what the two files may be refused for
abbrev pub assigned_flaws : List Flaw
assigned_flaws = program_flaws ++ OfWitness ∷ []

-- the two files, the text being judged before the witness is read
unfoldable pub assigned_of : Named → Named → Names → Look Assigned
assigned_of text witness files = do
  program ← input text program_in files
  z ← input witness witness_in files
  settled (Ok (record { program = program; z = z }))

-- the run that the assignment has, or why it has none
unfoldable pub assigned_run : Net → ℕ → ℕ → Assigned → Result Run NotRun
assigned_run net n t assigned = run_in net (program_runs n t assigned.program) assigned.z

-- what comes of a run, or of there being none
abbrev pub run_ends : (Run → Outcome) → Result Run NotRun → Outcome
run_ends f (Ok run) = f run
run_ends f (Err why) = record { files = []; finish = finishes.NotARun why }

-- the end where there is none, unless memory was wanting
abbrev pub not_run : ExtractFault → Result Finish Stop
not_run (faults.WireCount has wants) = Ok (finishes.NotARun (WireCount has wants))
not_run (faults.WideWire at) = Ok (finishes.NotARun (WideWire at))
not_run (faults.NotARun end) = Ok (finishes.NotARun (NotARun end))
not_run faults.Memory = Err Memory

-- ---- of the assignment as many values as the system has wires
-- a program, the first values of an assignment of its system, and how many values it has
pub record Kept : Type 0 where
  pub program : Program
  pub first : Firsts

-- as the code keeps them
abbrev pub kept_in : Assignment → Kept
kept_in assignment = record { program = assignment.program; first = firsts_in assignment.first }

-- the first values as an assignment
abbrev pub assigned_by : Kept → Assigned
assigned_by kept = record { program = kept.program; z = kept.first.values }

abbrev pub assigned_in : Assignment → Assigned
assigned_in assignment = assigned_by (kept_in assignment)

-- the two files, the text being judged before the witness is read, of whose values this many are kept
unfoldable pub kept_of : Net → ℕ → ℕ → Named → Named → Names → Look Kept
kept_of net n t text witness files = do
  program ← input text program_in files
  first ← input witness (firsts_in_witness (program_system net n t program).wires) files
  settled (Ok (record { program = program; first = first }))

-- the run that the assignment has, of which there are no other values, or why it has none
unfoldable pub kept_run : Net → ℕ → ℕ → Kept → Result Run NotRun
kept_run net n t kept =
    if kept.first.count == (program_system net n t kept.program).wires
    then assigned_run net n t (assigned_by kept)
    else Err (WireCount kept.first.count (program_system net n t kept.program).wires)

-- the two files hold a program and an assignment, or the first of them that is refused is refused for this; the run
-- that is found is one of the assignment, and an assignment that satisfies the program's system has one, which reads
-- all of its auxiliary tape
pub record HasAssigned (net : Net) (n t : ℕ) (text witness : Option (List ℕ)) (held : Result Assigned Bad) : Type 0 where
  pub holds : Then (Holds program_in text) (λ program. Then (Holds witness_in witness)
      (λ z held. held ≡ Ok (record { program = program; z = z }))) held
  pub run : IfOk held (λ assigned. (run : Run) → assigned_run net n t assigned ≡ Ok run → IsRunOf (program_runs n t assigned.program) assigned.z run)
  pub satisfying : IfOk held (λ assigned. Sat (program_system net n t assigned.program) assigned.z
      → HasRunIn net (program_runs n t assigned.program) assigned.z)
