-- The outputs of a network as a list that is computed from where they stand.
use Rattle.std.specs.Prelude.{ℕ, ◌^◌, Result, Ok, Err}
use Rattle.tv_benes.specs.Places.{AreBelow}
use Rattle.tv_benes.specs.declared.places.Ends.{Ends}
use Rattle.tv_core.specs.declared.sink.SinkFault.{SinkFault}

-- where the outputs stand, and how many there are
pub record OutputList : Type 0 where
  pub ends : Ends
  pub count : ℕ

-- each of them is two wires
abbrev pub AreWires : Ends → ℕ → Type 0
AreWires ends count = AreBelow ends count (2 ^ 32)

-- of a result with them, where they stand
abbrev pub ends_in : Result OutputList SinkFault → Result Ends SinkFault
ends_in (Ok outputs) = Ok outputs.ends
ends_in (Err fault) = Err fault
