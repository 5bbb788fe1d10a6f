use Rattle.tv_core.proofs.Common.{◌≡◌, ◌/◌, arith, refl}
use Rattle.tv_core.proofs.Common.{emits_as, all_then, some_then, some_first, refused_wires, all_last, emits_here, emits_no_turn, emits_turn, turn_some}
use Rattle.tv_shift.specs.Masks.{masked_of}
use Rattle.tv_shift.proofs.masks.masked.Goals as goal

pub loop-i-init : goal.loop-i-init
loop-i-init g c = record { emits = emits_no_turn _ _ c.requires.room.whole }

pub loop-i-preserved : goal.loop-i-preserved
loop-i-preserved g c = record { emits = emits_turn _ _ _ c.loop-i.invariant.emits c.in_ok-pair.ensures.emits }

pub returns-in_err-pair : goal.returns-in_err-pair
unfolding masked_of
returns-in_err-pair g c =
    let turn = turn_some _ _ _ c.loop-i.invariant.emits c.loop-i-test.true c.in_err-pair.ensures.emits in
    let first = emits_here c.requires.room.whole c.wires.ensures in
    refused_wires _ _ _ _ c.from_residual.ensures (some_then _ first (some_first _ turn))

pub returns-clause-emits : goal.returns-clause-emits
unfolding masked_of
returns-clause-emits g c =
    let all : c.loop-i.i ≡ g.row.W / 4 = omega arith in
    let first = emits_here c.requires.room.whole c.wires.ensures in
    let turns = rw all at c.loop-i.invariant.emits in
    emits_as (omega arith) (omega arith) (all_then _ first (all_last _ turns refl))
