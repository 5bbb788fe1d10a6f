-- A shrunk system's file.
use Rattle.std.specs.Prelude.{ℕ, List, Result}
use Rattle.tv_core.specs.declared.sink.SinkFault.{SinkFault}
use Rattle.tv_files.specs.Outside.{Outside}
use Rattle.tv_r1cs_write.specs.Streams.{IsSystemStreamed, labelled}
use Rattle.tv_r1cs_write.specs.Shrunken.{Shrunken}

-- a file was written: it has the bytes now, and is read as the system; or after a refusal all is as it was or it has
-- the first few of them, and the count of the cause rose; nothing else changed
abbrev pub Writes : Outside → Outside → List ℕ → Shrunken → Result (Unit {0}) SinkFault → Type 0
Writes old new name shrunken result = IsSystemStreamed old new name (labelled shrunken.system shrunken.wires shrunken.labels) result
