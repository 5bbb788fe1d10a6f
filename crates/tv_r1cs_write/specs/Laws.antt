-- What was written is read, and what a file is on the way.
use Rattle.std.specs.Prelude.{◌≡◌, ◌⊎◌, ℕ, ◌+◌, ◌^◌, ◌<◌, ◌≤◌, List, ◌++◌, length, Ok}
use Rattle.std.specs.List.{All}
use Rattle.tv_container.specs.Writing.{OnlyAppends}
use Rattle.tv_container.specs.Written.{HasFront, HasNow}
use Rattle.tv_core.specs.Constraints.{Constraint, System}
use Rattle.tv_core.specs.declared.lines.Counts.{Counts}
use Rattle.tv_files.specs.Calls.{Creates}
use Rattle.tv_files.specs.Outside.{Outside, OnlyWrites}
use Rattle.tv_files.specs.Whole.{HasBytes}
use Rattle.tv_r1cs_read.specs.R1cs.{r1cs_system}
use Rattle.tv_r1cs_write.specs.Bytes.{AreCounts, file_bytes, system_bytes}
use Rattle.tv_r1cs_write.specs.Narrow.{IsNarrow}
use Rattle.tv_r1cs_write.specs.Streams.{Stream, Stands, Tried, finished_bytes}

-- a system that the format can hold: a wire for the constant 1 and each public number, numbers of four
-- bytes, and constraints of combinations of at most 1,048,576 terms, of wires that there are and of numbers
-- of the field
pub record IsWritable (system : System) : Type 0 where
  pub wires : system.wires < 2 ^ 32
  pub publics : 1 + system.outputs + system.inputs ≤ system.wires
  pub constraints : length system.constraints < 2 ^ 32
  pub narrow : All (IsNarrow system.wires) system.constraints

-- the bytes of each such system are read as that system, whatever labels its wires have
abbrev pub SystemsComeBack : Type 0
SystemsComeBack = (system : System) (count : ℕ) (labels : List ℕ) → IsWritable system → length labels ≡ system.wires →
    r1cs_system (system_bytes system count labels) ≡ Ok system

-- where the counts are those of the list, the file of the list is that of a system
abbrev pub FilesAreOfSystems : Type 0
FilesAreOfSystems = (counts : Counts) (count : ℕ) (list : List Constraint) (labels : List ℕ) → AreCounts counts list →
    file_bytes counts count list labels
    ≡ system_bytes (record { wires = counts.wires; outputs = counts.outputs; inputs = counts.inputs; constraints = list }) count labels

-- what a file has of a sink's constraints, whether or not one was refused, is a first part of the file of
-- each list that begins with them
abbrev pub FilesAreFronts : Type 0
FilesAreFronts = (sink : Stream) (list more : List Constraint) (labels : List ℕ) → Stands sink list ⊎ Tried sink list →
    HasFront sink.outside sink.name (finished_bytes sink.progress (list ++ more) labels)

-- from before a name was created to after bytes were appended to it, nothing else changed
pub record IsWhole (old new : Outside) (name bytes : List ℕ) : Type 0 where
  pub whole : HasBytes old new name bytes
  pub only : OnlyWrites old new

-- what was created and then only appended to is the one file that changed
abbrev pub FilesAreWhole : Type 0
FilesAreWhole = (old begun new : Outside) (name bytes : List ℕ) → Creates old begun name (Ok tt) → OnlyAppends begun new name →
    HasNow new name bytes → IsWhole old new name bytes
