use Rattle.tv_core.proofs.Common.{◌≡◌, ◌^◌, ◌<◌, arith, all_then, some_then, some_first, refused_wires, all_last, emits_here, emits_no_turn}
use Rattle.tv_core.proofs.Common.{emits_turn, turn_some, refl, emits_as}
use Rattle.tv_bits.proofs.Growing.{room_after}
use Rattle.tv_bits.specs.OneHot.{onehot_of}
use Rattle.tv_bits.proofs.rows.onehot_by.Goals as goal

pub loop-i-init : goal.loop-i-init
loop-i-init g c = record { emits = emits_no_turn _ _ c.requires.room.whole }

pub loop-i-preserved : goal.loop-i-preserved
loop-i-preserved g c =
    record {
      emits = emits_turn _ _ _ c.loop-i.invariant.emits c.in_ok-mark.ensures.emits;
    }

pub returns-in_err-mark : goal.returns-in_err-mark
unfolding onehot_of
returns-in_err-mark g c =
    let within : c.loop-i.i < 2 ^ c.args.x.now.n = omega arith in
    let first = emits_here c.requires.room.whole c.wires.ensures in
    refused_wires _ _ _ _ c.from_residual.ensures
    (some_then _ first (some_first _ (turn_some _ _ _ c.loop-i.invariant.emits within c.in_err-mark.ensures.emits)))

pub returns-in_err-put : goal.returns-in_err-put
unfolding onehot_of
returns-in_err-put g c =
    let all : c.loop-i.i ≡ 2 ^ c.args.x.now.n = omega arith in
    let first = emits_here c.requires.room.whole c.wires.ensures in
    let turns = rw all at c.loop-i.invariant.emits in
    let sum = rw (c.plus_row.ensures.terms, c.clear.ensures, c.row_len-count.ensures, c.set_wire.ensures.terms) at c.in_err-put.ensures.emits in
    refused_wires _ _ _ _ c.from_residual-in_err-put.ensures (some_then _ first (some_then _ turns (some_first _ sum)))

pub returns-clause-emits : goal.returns-clause-emits
unfolding onehot_of
returns-clause-emits g c =
    let all : c.loop-i.i ≡ 2 ^ c.args.x.now.n = omega arith in
    let first = emits_here c.requires.room.whole c.wires.ensures in
    let turns = rw all at c.loop-i.invariant.emits in
    let sum = rw (c.plus_row.ensures.terms, c.clear.ensures, c.row_len-count.ensures, c.set_wire.ensures.terms) at c.in_ok-put.ensures.emits in
    emits_as (omega (arith, all)) (omega (arith, all)) (all_then _ first (all_then _ turns (all_last _ sum refl)))

pub mark-requires : goal.mark-requires
mark-requires g c =
    let grown = c.loop-i.invariant.emits.grows in
    record {
      room = room_after grown c.requires.room (omega (arith, c.row_len-count.ensures)) (omega (arith, c.row_len-count.ensures));
      short = c.requires.short;
      x_made = omega (arith, c.requires.x_made, grown.wires);
    }

pub put-requires : goal.put-requires
put-requires g c =
    let grown = c.loop-i.invariant.emits.grows in
    let sum = rw c.clear.ensures at c.plus_row.ensures.top in
    record {
      whole = grown.whole;
      room = omega (arith, c.requires.room.constraints, grown.constraints, c.row_len-count.ensures);
      a_made = omega (arith, sum, c.wires.ensures, c.requires.room.constant, grown.wires);
      b_made = omega (arith, c.set_wire.ensures.top, c.requires.room.constant, grown.wires);
      c_made = omega (arith, c.set_wire.ensures.top, c.requires.room.constant, grown.wires);
    }
