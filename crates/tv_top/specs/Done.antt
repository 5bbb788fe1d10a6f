-- What a call leaves that is done, in the words of the headline, by the clause of its command.
use Rattle.std.specs.Prelude.{◌≡◌, ℕ, List, Ok, Some}
use Rattle.tv_core.specs.Constraints.{System}
use Rattle.tv_core.specs.declared.field.TheConstants.{P}
use Rattle.tv_core.specs.declared.limits.TheConstants.{CHECK_WORDS}
use Rattle.tv_files.specs.Outside.{Names, with_bytes}
use Rattle.tv_r1cs_read.specs.R1cs.{r1cs_system}
use Rattle.tv_wtns.specs.Wtns.{assignment_of}
use Rattle.tv_plan.specs.declared.programs.Program.{Program}
use Rattle.tv_plan.specs.declared.status.Status.TheVariants.{Done}
use Rattle.tv_plan.specs.Check.{Checks}
use Rattle.tv_plan.specs.Claims.{Call}
use Rattle.tv_top.specs.Build.{BuildWords, Builds, build_ends}
use Rattle.tv_top.specs.Extract.{ExtractWords, Extracts}
use Rattle.tv_top.specs.Headline.{Assembles, IsTape, AreTapes, AreReadBack, BuildLeaves, witness_of, WitnessLeaves, CheckAccepts, ExtractLeaves}
use Rattle.tv_top.specs.Witness.{WitnessWords, Witnesses}

-- TEXT assembles, and SYSTEM is what `build` leaves
pub record BuildIsDone (given : BuildWords) (files : Names) (call : Call) : Type 0 where
  pub text : List ℕ
  pub there : files given.text.name ≡ Some text
  pub program : Program
  pub assembles : Assembles text program
  pub file : List ℕ
  pub leaves : BuildLeaves given.net given.n given.t program file
  pub read : AreReadBack (build_ends given.net given.n given.t program)
  pub after : call.after.contents ≡ Some (with_bytes given.system.name file files)

abbrev pub BuildLeads : Type 0
BuildLeads = (given : BuildWords) (files : Names) (call : Call) → Builds given files call → call.status ≡ Done → BuildIsDone given files call

-- TEXT assembles, TAPE and AUX are the tapes of a run that answers, and WITNESS is what `witness` leaves
pub record WitnessIsDone (given : WitnessWords) (files : Names) (call : Call) : Type 0 where
  pub text : List ℕ
  pub there : files given.text.name ≡ Some text
  pub program : Program
  pub assembles : Assembles text program
  pub tape : List ℕ
  pub tape_there : files given.tape.name ≡ Some tape
  pub aux : List ℕ
  pub aux_there : files given.aux.name ≡ Some aux
  pub x : List ℕ
  pub u : List ℕ
  pub v : ℕ
  pub step : ℕ
  pub answers : AreTapes program given.t tape aux x u v step
  pub witness : List ℕ
  pub leaves : WitnessLeaves given.net given.t program x u witness
  pub read : AreReadBack (witness_of given.net given.t program x u)
  pub after : call.after.contents ≡ Some (with_bytes given.witness.name witness files)

abbrev pub WitnessLeads : Type 0
WitnessLeads = (given : WitnessWords) (files : Names) (call : Call) → Witnesses given files call → call.status ≡ Done → WitnessIsDone given files call

-- SYSTEM, WITNESS and PUBLIC are read as a system, an assignment and numbers to which `check` says yes
pub record CheckIsDone (system_name witness_name publics_name : List ℕ) (files : Names) (call : Call) : Type 0 where
  pub file : List ℕ
  pub there : files system_name ≡ Some file
  pub system : System
  pub read : r1cs_system file ≡ Ok system
  pub witness : List ℕ
  pub witness_there : files witness_name ≡ Some witness
  pub z : List ℕ
  pub witness_read : assignment_of witness ≡ Ok z
  pub publics : List ℕ
  pub publics_there : files publics_name ≡ Some publics
  pub x : List ℕ
  pub publics_read : IsTape publics P CHECK_WORDS x
  pub accepts : CheckAccepts system z x
  pub after : call.after.contents ≡ Some files

abbrev pub CheckLeads : Type 0
CheckLeads = (system witness publics : List ℕ) (files : Names) (call : Call) → Checks files system witness publics call → call.status ≡ Done
    → CheckIsDone system witness publics files call

-- TEXT assembles, WITNESS is read as an assignment, and TAPE and AUX are what `extract` leaves
pub record ExtractIsDone (given : ExtractWords) (files : Names) (call : Call) : Type 0 where
  pub text : List ℕ
  pub there : files given.text.name ≡ Some text
  pub program : Program
  pub assembles : Assembles text program
  pub witness : List ℕ
  pub witness_there : files given.witness.name ≡ Some witness
  pub z : List ℕ
  pub read : assignment_of witness ≡ Ok z
  pub tape : List ℕ
  pub aux : List ℕ
  pub v : ℕ
  pub step : ℕ
  pub leaves : ExtractLeaves given.net given.n given.t program z tape aux v step
  pub after : call.after.contents ≡ Some (with_bytes given.aux.name aux (with_bytes given.tape.name tape files))

abbrev pub ExtractLeads : Type 0
ExtractLeads = (given : ExtractWords) (files : Names) (call : Call) → Extracts given files call → call.status ≡ Done → ExtractIsDone given files call
