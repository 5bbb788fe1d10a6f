-- What the window holds of a constraint.
use Rattle.std.specs.Prelude.{ℕ, ◌+◌, ◌-◌, ◌≤◌, ◌<◌}
use Rattle.tv_container.specs.Reading.{Holds, Piece}
use Rattle.tv_r1cs_read.specs.declared.held.Held.{Held}

-- the window holds the bytes from a place up to another, none of them after an end, and no more than a window may
pub record IsHeld (piece : Piece) (end : ℕ) (held : Held) : Type 0 where
  pub before : held.from ≤ held.to
  pub within : held.to ≤ end
  pub short : held.to ≤ held.from + 65536
  pub holds : held.from < held.to → Holds piece held.from (held.to - held.from)
