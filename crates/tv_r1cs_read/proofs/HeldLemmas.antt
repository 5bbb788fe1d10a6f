-- What the window holds of a constraint, part by part.
use Rattle.tv_core.proofs.Common.{◌≡◌, ℕ, ◌+◌, ◌-◌, ◌<◌, ◌≤◌, arith}
use Rattle.tv_container.specs.Reading.{Holds, Piece}
use Rattle.tv_r1cs_read.specs.declared.held.Held.{Held}
use Rattle.tv_r1cs_read.specs.Held.{IsHeld}

-- a part of it
pub held_part : (piece : Piece) (end : ℕ) (held : Held) (at size : ℕ) → IsHeld piece end held → held.from ≤ at → at + size ≤ held.to → held.from < held.to →
    Holds piece at size
held_part piece end held at size is from to some =
    let holds = is.holds some in
    record { from = omega (arith, holds.from, from); to = omega (arith, holds.to, to) }

-- and what is after a part
pub held_rest : (piece : Piece) (end : ℕ) (held rest : Held) → IsHeld piece end held → held.from ≤ rest.from → rest.from ≤ held.to → rest.to ≡ held.to →
    IsHeld piece end rest
held_rest piece end held rest is from within to = record {
  before = omega (arith, within, to);
  within = omega (arith, is.within, to);
  short = omega (arith, is.short, to, from);
  holds = λ some. held_part piece end held rest.from (rest.to - rest.from) is from (omega (arith, some, to)) (omega (arith, some, from, to));
}
