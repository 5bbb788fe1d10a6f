-- What files that are written hold, and that it is read of them again.
use Rattle.std.specs.Prelude.{◌≡◌, ℕ, List, Ok}
use Rattle.std.specs.List.{range_with_len}
use Rattle.tv_core.specs.Constraints.{System}
use Rattle.tv_r1cs_read.specs.R1cs.{r1cs_system}
use Rattle.tv_r1cs_write.specs.Bytes.{system_bytes}
use Rattle.tv_r1cs_write.specs.Shrunken.{Shrunken, shrunken_bytes}
use Rattle.tv_wtns.specs.Bytes.{assignment_bytes}
use Rattle.tv_wtns.specs.Wtns.{assignment_of}

-- some bytes, a system, what is left of one that was shrunk, or the values of an assignment
pub data Content : Type 0 where
  Bytes : List ℕ → Content
  Constraints : System → Content
  Rest : Shrunken → Content
  Values : List ℕ → Content

-- the bytes of the file; the wires of a system have the labels 0, 1, .., and those of what is left their old numbers
abbrev pub bytes_in : Content → List ℕ
bytes_in (Bytes bytes) = bytes
bytes_in (Constraints system) = system_bytes system system.wires (range_with_len 0 system.wires)
bytes_in (Rest shrunken) = shrunken_bytes shrunken
bytes_in (Values z) = assignment_bytes z

-- a system, or an assignment, is what is read of its file
abbrev pub IsRead : Content → Type 0
IsRead (Bytes bytes) = Unit {0}
IsRead (Constraints system) = r1cs_system (bytes_in (Constraints system)) ≡ Ok system
IsRead (Rest shrunken) = r1cs_system (bytes_in (Rest shrunken)) ≡ Ok shrunken.system
IsRead (Values z) = assignment_of (bytes_in (Values z)) ≡ Ok z
