-- What the program does, and how it ends.
use Rattle.std.specs.Prelude.{◌≡◌, ℕ}
use Rattle.tv_disk.specs.Counts.{outside_of, zeros}
use Rattle.tv_files.specs.Outside.{Outside}
use Rattle.tv_plan.specs.Ends.{Concludes}
use Rattle.tv_plan.specs.Status.{code_of}
use Rattle.tv_plan.specs.declared.refusal.Ending.TheVariants as endings
use Rattle.tv_plan.specs.declared.status.Status.{Status}
use Rattle.tinyr1cs_tools.specs.Sizes.{Sizes}
use Rattle.tinyr1cs_tools.specs.Trace.{Traces}
use Rattle.tinyr1cs_tools.specs.declared.request.Request.{Request}
use Rattle.tinyr1cs_tools.specs.declared.request.Request.TheVariants as request

-- what is asked for is done
abbrev pub Does : Request → Outside → Outside → Status → Type 0
Does (request.Trace args) old new result = Traces args old new result
Does (request.Sizes args) old new result = Sizes args old new result
Does (request.Refused why) old new result = Concludes (endings.Refused why) 1 old new result

-- it is done over the system's files, with a status that this is the exit code of
abbrev pub EndsBy : Request → ℕ → Type 0
EndsBy request code = (after : Outside) × (status : Status) × Does request (outside_of zeros) after status × (code ≡ code_of status)
