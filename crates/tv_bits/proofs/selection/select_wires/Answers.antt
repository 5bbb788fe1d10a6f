use Rattle.tv_core.proofs.Common.{arith}
use Rattle.tv_bits.proofs.selection.select_wires.Goals as goal

pub select_terms-requires : goal.select_terms-requires
select_terms-requires g c = record {
  room = c.requires.room;
  b_made = c.requires.b_made;
  made = omega (arith, c.requires.x_made, c.requires.y_made);
  short = omega arith;
}
