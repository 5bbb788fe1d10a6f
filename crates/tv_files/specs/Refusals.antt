-- What a refused call makes of the call that made it.
use Rattle.tv_files.specs.declared.calls.FileRefusal.{FileRefusal}
use Rattle.tv_files.specs.declared.calls.FileRefusal.TheVariants as file
use Rattle.tv_files.specs.declared.outcome.Slurp.{Slurp}
use Rattle.tv_files.specs.declared.outcome.Slurp.TheVariants.{Fault, Memory}

-- a fault of the outside is a fault, and an allocation failure stays one
abbrev pub slurp_refusal : FileRefusal → Slurp
slurp_refusal file.Failed = Fault
slurp_refusal file.Memory = Memory
