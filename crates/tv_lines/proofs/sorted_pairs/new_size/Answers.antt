use Rattle.tv_core.proofs.Common.{arith, some_first, refused_wires, then_in}
use Rattle.tv_core.proofs.Rooms.{room_here, room_left}
use Rattle.tv_lines.specs.SortedPair.{size_of}
use Rattle.tv_lines.proofs.sorted_pairs.new_size.Goals as goal

pub returns-in_err-bits : goal.returns-in_err-bits
unfolding size_of
returns-in_err-bits g c =
    refused_wires _ _ _ _ c.from_residual.ensures (some_first _ c.in_err-bits.ensures.emits)

pub returns-clause-emits : goal.returns-clause-emits
unfolding size_of
returns-clause-emits g c =
    let sum = rw (c.plus.ensures.terms, c.set_number.ensures.terms) at c.kept_by.ensures.emits in
    then_in _ _ _ _ _ c.in_ok-bits.ensures.emits sum

pub new_bits_by-requires : goal.new_bits_by-requires
new_bits_by-requires g c = record { room = room_here c.requires.room (omega arith) }

pub kept_by-requires : goal.kept_by-requires
kept_by-requires g c =
    let bits = c.in_ok-bits.ensures in
    record {
      room = room_left c.requires.room bits.emits.grows (omega arith);
      x_made = omega (arith, c.plus.ensures.top, c.set_number.ensures.top, c.requires.room.constant, bits.below, bits.emits.grows.wires);
    }
