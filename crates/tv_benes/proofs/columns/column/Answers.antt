use Rattle.tv_core.proofs.Common.{◌≡◌, ◌+◌, ◌*◌, arith, refused_whole, emits_as, emits_no_turn, emits_turn, turn_some}
use Rattle.tv_core.proofs.Rooms.{room_left}
use Rattle.tv_benes.proofs.NetworkChain.{made_at}
use Rattle.tv_benes.specs.Network.{column_of}
use Rattle.tv_benes.specs.Places.{item_in}
use Rattle.tv_benes.proofs.columns.column.Goals as goal

pub loop-j-init : goal.loop-j-init
loop-j-init g c = record { emits = emits_no_turn _ _ c.requires.room.whole }

pub switch-requires : goal.switch-requires
switch-requires g c =
    let grown = c.loop-j.invariant.emits.grows in
    let pair = item_in g.I.Inputs.pair c.args.items.now in
    let made = made_at pair _ _ (g.S.Sink.meaning.wires c.loop-j.s) (omega (arith, grown.wires)) c.requires.made in
    record {
      room = room_left c.requires.room grown (omega arith);
      x_made = rw c.set_item.ensures (made (2 * c.loop-j.j) (omega arith));
      y_made = rw c.set_item-in-loop-j.ensures (made (2 * c.loop-j.j + 1) (omega arith));
    }

pub loop-j-preserved : goal.loop-j-preserved
loop-j-preserved g c =
    let switch = rw (c.set_item.ensures, c.set_item-in-loop-j.ensures) at c.in_ok-switch.ensures.emits in
    record { emits = emits_as (omega arith) (omega arith) (emits_turn _ _ _ c.loop-j.invariant.emits switch) }

pub returns-in_err-switch : goal.returns-in_err-switch
unfolding column_of
returns-in_err-switch g c =
    let switch = rw (c.set_item.ensures, c.set_item-in-loop-j.ensures) at c.in_err-switch.ensures.emits in
    refused_whole _ _ _ c.from_residual.ensures (turn_some _ _ _ c.loop-j.invariant.emits c.loop-j-test.true switch)

pub returns : goal.returns
unfolding column_of
returns g c =
    let all : c.loop-j.j ≡ c.args.n = omega arith in
    record { emits = rw all at c.loop-j.invariant.emits }
