-- A shrunk system and its file.
use Rattle.std.specs.Prelude.{ℕ, List}
use Rattle.tv_core.specs.Constraints.{System}
use Rattle.tv_r1cs_write.specs.Bytes.{system_bytes}

-- a shrunk system: each wire's label is the number that it had in the old one, which had this many wires
pub record Shrunken : Type 0 where
  pub system : System
  pub labels : List ℕ
  pub wires : ℕ

-- the bytes of the file: the system, with its labels, whose number in the head is that of the old system's wires
abbrev pub shrunken_bytes : Shrunken → List ℕ
shrunken_bytes shrunken = system_bytes shrunken.system shrunken.wires shrunken.labels
