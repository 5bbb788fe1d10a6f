use Rattle.tv_core.proofs.Common.{◌-◌, ◌*◌, ◌^◌, ◌≤◌, sym, ap, subst, arith, emits_as, refused_whole}
use Rattle.tv_benes.proofs.Bounds.{less_by, level_less}
use Rattle.tv_benes.proofs.NetworkChain.{lowest_is, lowest_put, column_refused, upper_refused, lower_refused, network_put, put_ends, all_at, some_at}
use Rattle.tv_benes.proofs.NetworkChain.{one_fits, two_fit, all_fit, all_are, row_made}
use Rattle.tv_core.proofs.Rooms.{room_here, room_left, both}
use Rattle.tv_benes.proofs.ThroughLaws.{above, column_fits}
use Rattle.tv_benes.specs.Network.{network_of}
use Rattle.tv_benes.specs.Places.{item_in, row, AreBelow}
use Rattle.tv_benes.proofs.networks.+level.Goals as goal

pub column-requires-clause-room : goal.column-requires-clause-room
column-requires-clause-room g t c = room_here c.requires.room (omega (arith, column_fits c.args.net c.args.h, c.power.ensures))

pub returns-in_err-column : goal.returns-in_err-column
returns-in_err-column g t c =
    refused_whole _ _ _ c.from_residual.ensures (column_refused _ _ _ c.requires.room.whole c.args.h c.power.ensures c.in_err-column.ensures.emits)

pub returns-then-h-eq0 : goal.returns-then-h-eq0
returns-then-h-eq0 g t c =
    let all = lowest_is c.args.net c.power.ensures c.if-h-eq0.true in
    record {
      emits = rw c.column_outputs.ensures (emits_as all all (lowest_put _ _ _ c.requires.room.whole c.power.ensures c.if-h-eq0.true c.wires.ensures
          c.in_ok-column.ensures.emits));
    }

pub level-requires : goal.level-requires
level-requires g t c κs within =
    let below = above c.args.net c.args.h c.if-h-eq0.false in
    let grown = c.in_ok-column.ensures.emits.grows in
    let made = row_made c.args.net c.power.ensures c.if-h-eq0.false 1 0 c.offset.ensures (omega arith) c.wires.ensures (omega (arith, grown.wires)) in
    let room = room_left c.requires.room grown (one_fits c.args.net c.power.ensures c.if-h-eq0.false) in
    let count : 2 * 2 ^ (c.args.h - 1) ≤ 2 ^ 31 = omega (arith, below.size, c.requires.level, c.power.ensures) in
    (less_by below.level c.decreases, (within.0, (within.1, (level_less below.level c.requires.level, (room, (count, made))))))

pub returns-in_err-upper : goal.returns-in_err-upper
returns-in_err-upper g t c =
    refused_whole _ _ _ c.from_residual-in_err-upper.ensures
    (upper_refused _ c.args.net (item_in g.I.Inputs.pair c.args.items.now) c.power.ensures c.if-h-eq0.false c.requires.room.whole c.wires.ensures
    c.in_ok-column.ensures.emits (some_at (ap (λ w. network_of c.args.net (c.args.h - 1) (row w)) c.offset.ensures) c.in_err-upper.ensures.emits))

pub level-requires-2 : goal.level-requires-2
level-requires-2 g t c κs within =
    let below = above c.args.net c.args.h c.if-h-eq0.false in
    let grown = both c.in_ok-column.ensures.emits.grows c.in_ok-upper.ensures.emits.grows in
    let made = row_made c.args.net c.power.ensures c.if-h-eq0.false 3 _ c.offset-2.ensures (omega arith) c.wires.ensures grown.wires in
    let room = room_left c.requires.room grown (two_fit c.args.net c.power.ensures c.if-h-eq0.false) in
    let count : 2 * 2 ^ (c.args.h - 1) ≤ 2 ^ 31 = omega (arith, below.size, c.requires.level, c.power.ensures) in
    (less_by below.level c.decreases, (within.0, (within.1, (level_less below.level c.requires.level, (room, (count, made))))))

pub returns-in_err-lower : goal.returns-in_err-lower
returns-in_err-lower g t c =
    refused_whole _ _ _ c.from_residual-in_err-lower.ensures
    (lower_refused _ c.args.net (item_in g.I.Inputs.pair c.args.items.now) c.power.ensures c.if-h-eq0.false c.requires.room.whole c.wires.ensures
    c.in_ok-column.ensures.emits (all_at (ap (λ w. network_of c.args.net (c.args.h - 1) (row w)) c.offset.ensures) c.in_ok-upper.ensures.emits)
    (some_at (ap (λ w. network_of c.args.net (c.args.h - 1) (row w)) c.offset-2.ensures) c.in_err-lower.ensures.emits))

pub last_column-requires-clause-room : goal.last_column-requires-clause-room
last_column-requires-clause-room g t c =
    room_left c.requires.room (both (both c.in_ok-column.ensures.emits.grows c.in_ok-upper.ensures.emits.grows) c.in_ok-lower.ensures.emits.grows)
    (all_fit c.args.net c.power.ensures c.if-h-eq0.false)

pub last_column-requires-clause-upper : goal.last_column-requires-clause-upper
last_column-requires-clause-upper g t c =
    subst (λ k. AreBelow c.in_ok-upper.upper (2 ^ k) (g.S.Sink.meaning.wires c.level-2.new.s)) (sym (above c.args.net c.args.h c.if-h-eq0.false).level)
    (λ i k. let at = put_ends _ c.args.net (c.args.h - 1) (row c.offset.result) c.in_ok-upper.ensures.emits i k in
    omega (arith, at, c.in_ok-lower.ensures.emits.grows.wires))

pub last_column-requires-clause-lower : goal.last_column-requires-clause-lower
last_column-requires-clause-lower g t c =
    subst (λ k. AreBelow c.in_ok-lower.lower (2 ^ k) (g.S.Sink.meaning.wires c.level-2.new.s)) (sym (above c.args.net c.args.h c.if-h-eq0.false).level)
    (put_ends _ c.args.net (c.args.h - 1) (row c.offset-2.result) c.in_ok-lower.ensures.emits)

pub returns : goal.returns
returns g t c =
    let upper = all_at (ap (λ w. network_of c.args.net (c.args.h - 1) (row w)) c.offset.ensures) c.in_ok-upper.ensures.emits in
    let lower = all_at (ap (λ w. network_of c.args.net (c.args.h - 1) (row w)) c.offset-2.ensures) c.in_ok-lower.ensures.emits in
    record {
      emits = network_put _ c.args.net (item_in g.I.Inputs.pair c.args.items.now) c.power.ensures c.if-h-eq0.false c.requires.room.whole c.wires.ensures
          c.in_ok-column.ensures.emits upper lower _ _ _ _ (all_are c.args.net c.power.ensures c.if-h-eq0.false) c.last_column.ensures.emits;
    }
