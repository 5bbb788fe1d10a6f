use Rattle.tv_core.proofs.Common.{arith}
use Rattle.tv_bits.proofs.selection.select_terms.Goals as goal

pub returns-clause-emits : goal.returns-clause-emits
returns-clause-emits g c = rw c.set_wire.ensures.terms at c.pick_by.ensures.emits

pub pick_by-requires : goal.pick_by-requires
pick_by-requires g c = record {
  room = c.requires.room;
  b_made = omega (arith, c.set_wire.ensures.top, c.requires.b_made);
  made = c.requires.made;
  short = c.requires.short;
}
