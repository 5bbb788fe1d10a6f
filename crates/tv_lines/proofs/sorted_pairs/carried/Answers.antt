use Rattle.tv_core.proofs.Common.{arith, some_first, refused_whole, then_in}
use Rattle.tv_core.proofs.Rooms.{room_here}
use Rattle.tv_lines.specs.SortedPair.{carried_of}
use Rattle.tv_lines.proofs.sorted_pairs.carried.Goals as goal

pub returns-in_err-same : goal.returns-in_err-same
unfolding carried_of
returns-in_err-same g c =
    let flag = rw c.set_wire.ensures.terms at c.in_err-same.ensures.emits in
    refused_whole _ _ _ c.from_residual.ensures (some_first _ flag)

pub returns : goal.returns
unfolding carried_of
returns g c =
    let flag = rw c.set_wire.ensures.terms at c.in_ok-same.ensures.emits in
    let word = rw (c.set_wire-2.ensures.terms, c.set_number.ensures.terms, c.set_number-2.ensures.terms) at c.put.ensures.emits in
    record { emits = then_in _ _ _ _ _ flag word }

pub zero_by-requires : goal.zero_by-requires
zero_by-requires g c = record { room = room_here c.requires.room (omega arith); x_made = omega (arith, c.set_wire.ensures.top, c.requires.apart_made) }

pub put-requires : goal.put-requires
put-requires g c =
    let same = c.in_ok-same.ensures in
    record {
      whole = same.emits.grows.whole;
      room = omega (arith, c.requires.room.constraints, same.emits.grows.constraints);
      a_made = omega (arith, c.set_wire-2.ensures.top, same.below);
      b_made = omega (arith, c.set_number.ensures.top, c.requires, same.emits.grows.wires);
      c_made = omega (arith, c.set_number-2.ensures.top, c.requires, same.emits.grows.wires);
    }
