use Rattle.tv_core.proofs.Common.{arith, some_first, refused_whole, then_in}
use Rattle.tv_lines.specs.Predecessor.{either_of}
use Rattle.tv_lines.proofs.predecessor.either.Goals as goal

pub returns-in_err-put : goal.returns-in_err-put
unfolding either_of
returns-in_err-put g c =
    let cells = rw (c.set_either.ensures.a, c.set_either.ensures.b, c.set_either.ensures.c) at c.in_err-put.ensures.emits in
    refused_whole _ _ _ c.from_residual.ensures (some_first _ cells)

pub returns : goal.returns
unfolding either_of
returns g c =
    let cells = rw (c.set_either.ensures.a, c.set_either.ensures.b, c.set_either.ensures.c) at c.in_ok-put.ensures.emits in
    let times = rw (c.set_either.ensures.a, c.set_times.ensures.terms, c.set_either.ensures.c) at c.put-2.ensures.emits in
    record { emits = then_in _ _ _ _ _ cells times }

pub put-requires : goal.put-requires
put-requires g c = record {
  whole = c.requires.room.whole;
  room = omega (arith, c.requires.room.constraints);
  a_made = rw c.set_either.ensures.a (omega (arith, c.requires.e_made));
  b_made = omega (arith, c.set_either.ensures.top, c.requires.line.cell, c.requires.item.first);
  c_made = rw c.set_either.ensures.c (omega arith);
}

pub put-requires-2 : goal.put-requires-2
put-requires-2 g c =
    let added = c.in_ok-put.ensures.emits.grows in
    record {
      whole = added.whole;
      room = omega (arith, c.requires.room.constraints, added.constraints);
      a_made = rw c.set_either.ensures.a (omega (arith, c.requires.e_made, added.wires));
      b_made = omega (arith, c.set_times.ensures.top, c.requires.e_made, c.requires.item.second, c.requires.room.constant, added.wires);
      c_made = rw c.set_either.ensures.c (omega arith);
    }
