use Rattle.tv_core.proofs.Common.{arith, refused, all_then, some_then, some_first, all_last, refl, emits_as}
use Rattle.tv_bits.proofs.Growing.{less_room, room_after}
use Rattle.tv_bits.specs.DoubleRow.{double_row_of}
use Rattle.tv_bits.proofs.double_rows.double_row.Goals as goal

pub returns-in_err-row-clause-emits : goal.returns-in_err-row-clause-emits
unfolding double_row_of
returns-in_err-row-clause-emits g c =
    refused _ _ _ c.from_residual.ensures.1 (some_first _ c.in_err-row.ensures.emits)

pub returns-in_err-ratio_by-clause-emits : goal.returns-in_err-ratio_by-clause-emits
unfolding double_row_of
returns-in_err-ratio_by-clause-emits g c =
    let edge = rw (c.set_above_edge.ensures.terms, c.set_wire.ensures.terms) at c.in_err-ratio_by.ensures.emits in
    refused _ _ _ c.from_residual-in_err-ratio_by.ensures.1 (some_then _ c.in_ok-row.ensures.emits (some_first _ edge))

pub returns-clause-emits : goal.returns-clause-emits
unfolding double_row_of
returns-clause-emits g c =
    let edge = rw (c.set_above_edge.ensures.terms, c.set_wire.ensures.terms) at c.in_ok-ratio_by.ensures.emits in
    emits_as (omega arith) (omega arith) (all_then _ c.in_ok-row.ensures.emits (all_last _ edge refl))

pub row_wires-requires : goal.row_wires-requires
row_wires-requires g c = record { width = c.requires.width; room = less_room c.requires.room (omega arith) (omega arith) }

pub ratio_by-requires : goal.ratio_by-requires
ratio_by-requires g c =
    let row = c.in_ok-row.ensures in
    record {
      room = room_after row.emits.grows c.requires.room (omega arith) (omega arith);
      x_made = omega (arith, c.set_above_edge.ensures.top, c.requires.signed_made, row.words_below, row.emits.grows.wires);
      y_made = omega (arith, c.set_wire.ensures.top, row.words_below);
    }
