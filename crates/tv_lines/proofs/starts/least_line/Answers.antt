use Rattle.tv_core.proofs.Common.{arith}
use Rattle.tv_lines.specs.Starts.{least_line_of}
use Rattle.tv_lines.proofs.starts.least_line.Goals as goal

pub returns : goal.returns
unfolding least_line_of
returns g c = record { emits = rw (c.add_to.ensures.terms, c.set_wire.ensures.terms, c.clear-2.ensures) at c.put.ensures.emits }

pub put-requires : goal.put-requires
put-requires g c = record {
  whole = c.requires.room.whole;
  room = omega (arith, c.requires.room.constraints);
  a_made = omega (arith, c.add_to.ensures.top, c.requires.line.old);
  b_made = omega (arith, c.set_wire.ensures.top, c.requires.room.constant);
  c_made = rw c.clear-2.ensures (omega arith);
}
