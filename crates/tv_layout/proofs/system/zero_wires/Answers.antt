use Rattle.tv_core.proofs.Common.{◌≡◌, arith, all_then, some_then, some_first, refused_wires, all_last, emits_here, emits_no_turn, refl, emits_turn, turn_some}
use Rattle.tv_layout.specs.Layout.{zero_wires_of}
use Rattle.tv_layout.specs.declared.places.TheConstants.{STATE_WIRES}
use Rattle.tv_layout.proofs.system.zero_wires.Goals as goal

pub loop-turn-init : goal.loop-turn-init
loop-turn-init g c = record { emits = emits_no_turn _ _ c.requires.room.whole }

pub loop-turn-preserved : goal.loop-turn-preserved
loop-turn-preserved g c = record { emits = emits_turn _ _ _ c.loop-turn.invariant.emits c.in_ok-zero_wire.ensures.emits }

pub returns-in_err-zero_wire : goal.returns-in_err-zero_wire
unfolding zero_wires_of
returns-in_err-zero_wire g c =
    let turn = turn_some _ _ _ c.loop-turn.invariant.emits c.loop-turn-test.true c.in_err-zero_wire.ensures.emits in
    refused_wires _ _ _ _ c.from_residual.ensures (some_then _ (emits_here c.requires.room.whole c.wires.ensures) (some_first _ turn))

pub returns-clause-emits : goal.returns-clause-emits
unfolding zero_wires_of
returns-clause-emits g c =
    let all : c.loop-turn._turn ≡ STATE_WIRES = omega arith in
    let turns = rw all at c.loop-turn.invariant.emits in
    all_then _ (emits_here c.requires.room.whole c.wires.ensures) (all_last _ turns refl)
