use Rattle.tv_core.proofs.Common.{arith, all_then, some_then, some_first, refused_wires, all_last, refl}
use Rattle.tv_core.proofs.Rooms.{room_here, room_left}
use Rattle.tv_lines.specs.UnpackedLines.{unpack_of}
use Rattle.tv_lines.proofs.unpacked_lines.unpack.Goals as goal

pub returns-in_err-first : goal.returns-in_err-first
unfolding unpack_of
returns-in_err-first g c =
    refused_wires _ _ _ _ c.from_residual.ensures (some_first _ c.in_err-first.ensures.emits)

pub returns-in_err-second : goal.returns-in_err-second
unfolding unpack_of
returns-in_err-second g c =
    refused_wires _ _ _ _ c.from_residual-in_err-second.ensures (some_then _ c.in_ok-first.ensures.emits (some_first _ c.in_err-second.ensures.emits))

pub returns-clause-emits : goal.returns-clause-emits
unfolding unpack_of
returns-clause-emits g c = rw c.line_bits.ensures (all_then _ c.in_ok-first.ensures.emits (all_last _ c.in_ok-second.ensures.emits refl))

pub bits_by-requires : goal.bits_by-requires
bits_by-requires g c = record { room = room_here c.requires.room (omega arith); x_made = c.requires.first_made; short = omega arith }

pub bits_by-requires-2 : goal.bits_by-requires-2
bits_by-requires-2 g c =
    let first = c.in_ok-first.ensures.emits.grows in
    record { room = room_left c.requires.room first (omega arith); x_made = omega (arith, c.requires.second_made, first.wires); short = omega arith }
