use Rattle.tv_core.proofs.Common.{arith, refused, all_then, some_then, some_first, all_last, refl, emits_as}
use Rattle.tv_bits.proofs.Growing.{less_room, both, room_after}
use Rattle.tv_bits.specs.DoubleRow.{row_wires_of}
use Rattle.tv_bits.proofs.double_rows.row_wires.Goals as goal

pub returns-in_err-first-clause-emits : goal.returns-in_err-first-clause-emits
unfolding row_wires_of
returns-in_err-first-clause-emits g c =
    refused _ _ _ c.from_residual.ensures.1 (some_first _ c.in_err-first.ensures.emits)

pub returns-in_err-low-clause-emits : goal.returns-in_err-low-clause-emits
unfolding row_wires_of
returns-in_err-low-clause-emits g c =
    refused _ _ _ c.from_residual-in_err-low.ensures.1 (some_then _ c.in_ok-first.ensures.emits (some_first _ c.in_err-low.ensures.emits))

pub returns-in_err-high-clause-emits : goal.returns-in_err-high-clause-emits
unfolding row_wires_of
returns-in_err-high-clause-emits g c =
    let high = rw c.offset.ensures at c.in_err-high.ensures.emits in
    refused _ _ _ c.from_residual-in_err-high.ensures.1 (some_then _ c.in_ok-first.ensures.emits (some_then _ c.in_ok-low.ensures.emits (some_first _ high)))

pub returns-clause-emits : goal.returns-clause-emits
unfolding row_wires_of
returns-clause-emits g c =
    let high = rw c.offset.ensures at c.in_ok-high.ensures.emits in
    emits_as (omega arith) (omega arith) (all_then _ c.in_ok-first.ensures.emits (all_then _ c.in_ok-low.ensures.emits (all_last _ high refl)))

pub new_bits_by-requires : goal.new_bits_by-requires
new_bits_by-requires g c = record { room = less_room c.requires.room (omega arith) (omega arith) }

pub word-requires : goal.word-requires
word-requires g c =
    let made = c.in_ok-first.ensures in
    record {
      width = c.requires.width;
      room = room_after made.emits.grows c.requires.room (omega arith) (omega arith);
      made = omega (arith, made.size, made.below);
    }

pub word-requires-2 : goal.word-requires-2
word-requires-2 g c =
    let made = c.in_ok-first.ensures in
    let low = c.in_ok-low.ensures.emits.grows in
    record {
      width = c.requires.width;
      room = room_after (both made.emits.grows low) c.requires.room (omega arith) (omega arith);
      made = omega (arith, c.offset.ensures, made.size, made.below, low.wires);
    }
