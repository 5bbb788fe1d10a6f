-- What a refused call makes of the reading that made it.
use Rattle.tv_files.specs.declared.calls.FileRefusal.{FileRefusal}
use Rattle.tv_files.specs.declared.calls.FileRefusal.TheVariants as file
use Rattle.tv_container.specs.declared.why.ReadRefusal.{ReadRefusal}
use Rattle.tv_container.specs.declared.why.ReadRefusal.TheVariants.{Fault, Memory}

-- a fault of the outside is a fault, and an allocation failure stays one
abbrev pub read_refusal : FileRefusal → ReadRefusal
read_refusal file.Failed = Fault
read_refusal file.Memory = Memory
