use Rattle.tv_core.proofs.Common.{arith}
use Rattle.tv_lines.specs.Starts.{boot_line_of}
use Rattle.tv_lines.proofs.starts.boot_line.Goals as goal

pub returns : goal.returns
unfolding boot_line_of
returns g c = record { emits = rw (c.set_cells.ensures.terms, c.set_wire.ensures.terms, c.clear.ensures) at c.put.ensures.emits }

pub put-requires : goal.put-requires
put-requires g c = record {
  whole = c.requires.room.whole;
  room = omega (arith, c.requires.room.constraints);
  a_made = omega (arith, c.set_cells.ensures.top, c.requires.item.first, c.requires.room.constant);
  b_made = omega (arith, c.set_wire.ensures.top, c.requires.room.constant);
  c_made = rw c.clear.ensures (omega arith);
}
