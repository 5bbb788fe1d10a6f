-- What the steps so far lead to, as wires that were made.
use Rattle.std.specs.Prelude.{ℕ, ◌<◌}
use Rattle.tv_inputs.specs.States.{StateUnder}
use Rattle.tv_block.specs.declared.records.Reached.{Reached}

-- all its wires are below a number
pub record ReachedUnder (wires : ℕ) (last : Reached) : Type 0 where
  pub next : StateUnder wires last.next
  pub answers : last.answers < wires
  pub value : last.value < wires
