use Rattle.tv_core.proofs.Common.{arith, some_then, some_first, then_in, refused_whole}
use Rattle.tv_core.proofs.Rooms.{room_here, room_left, both}
use Rattle.tv_lines.specs.Predecessor.{follows_of}
use Rattle.tv_lines.proofs.predecessor.follows.Goals as goal

pub returns-in_err-reach : goal.returns-in_err-reach
unfolding follows_of
returns-in_err-reach g c =
    refused_whole _ _ _ c.from_residual.ensures (some_first _ c.in_err-reach.ensures.emits)

pub returns-in_err-e : goal.returns-in_err-e
unfolding follows_of
returns-in_err-e g c =
    let kept = rw c.set_excess.ensures.terms at c.in_err-e.ensures.emits in
    refused_whole _ _ _ c.from_residual-in_err-e.ensures (some_then _ c.in_ok-reach.ensures.emits (some_first _ kept))

pub returns : goal.returns
unfolding follows_of
returns g c =
    let kept = rw c.set_excess.ensures.terms at c.in_ok-e.ensures.emits in
    record { emits = then_in _ _ _ _ _ c.in_ok-reach.ensures.emits (then_in _ _ _ _ _ kept c.either.ensures.emits) }

pub new_bits_by-requires : goal.new_bits_by-requires
new_bits_by-requires g c = record { room = room_here c.requires.room (omega arith) }

pub set_excess-requires : goal.set_excess-requires
set_excess-requires g c =
    let reach = c.in_ok-reach.ensures in
    omega (arith, c.requires.short, reach.size, c.requires.room.wires, reach.below, reach.emits.grows.wires, c.requires.item.first_short)

pub kept_by-requires : goal.kept_by-requires
kept_by-requires g c =
    let reach = c.in_ok-reach.ensures in
    record {
      room = room_left c.requires.room reach.emits.grows (omega arith);
      x_made = omega (arith, c.set_excess.ensures.top, c.requires.room.constant, c.requires.line, c.requires.item.first, reach.below, reach.emits.grows.wires);
    }

pub either-requires : goal.either-requires
either-requires g c =
    let reach = c.in_ok-reach.ensures.emits.grows in
    let e = c.in_ok-e.ensures.emits.grows in
    record {
      room = room_left c.requires.room (both reach e) (omega arith);
      e_made = c.in_ok-e.ensures.below;
      line = omega (arith, c.requires.line, reach.wires, e.wires);
      item = omega (arith, c.requires.item, reach.wires, e.wires);
    }
