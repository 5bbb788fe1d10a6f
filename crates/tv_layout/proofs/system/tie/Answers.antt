use Rattle.tv_core.proofs.Common.{◌≡◌, ℕ, ◌+◌, ◌≤◌, ◌<◌, arith, some_first, wire, constant, top, Combination, refused_whole, then_in}
use Rattle.tv_layout.specs.Layout.{tie_of}
use Rattle.tv_layout.proofs.system.tie.Goals as goal

top_wire : {lc : Combination} {w n : ℕ} → lc ≡ wire w → w < n → top lc ≤ n
top_wire e h = rw e (omega arith)

top_one : {lc : Combination} {n : ℕ} → lc ≡ constant 1 → 0 < n → top lc ≤ n
top_one e h = rw e (omega arith)

stays : {w a b : ℕ} → b ≡ a + 0 → w < a → w < b
stays e h = omega arith

pub put-requires : goal.put-requires
put-requires g c =
    let room = c.requires.room in
    record {
      whole = room.whole;
      room = omega (arith, room.constraints);
      a_made = top_wire c.wire.ensures c.requires.last_made.answers;
      b_made = top_one c.constant-one.ensures room.constant;
      c_made = top_one c.constant-one.ensures room.constant;
    }

pub put-requires-2-clause-room : goal.put-requires-2-clause-room
put-requires-2-clause-room g c = let room = c.requires.room in let grown = c.in_ok-put.ensures.emits.grows in omega (arith, room.constraints, grown.constraints)

pub put-requires-2-clause-a_made : goal.put-requires-2-clause-a_made
put-requires-2-clause-a_made g c = top_wire c.wire-2.ensures (stays c.in_ok-put.ensures.emits.grows.wires c.requires.last_made.value)

pub put-requires-2-clause-b_made : goal.put-requires-2-clause-b_made
put-requires-2-clause-b_made g c = top_one c.constant-one.ensures (stays c.in_ok-put.ensures.emits.grows.wires c.requires.room.constant)

pub returns-in_err-put : goal.returns-in_err-put
unfolding tie_of
returns-in_err-put g c =
    let sum = rw (c.wire.ensures, c.constant-one.ensures) at c.in_err-put.ensures.emits in
    refused_whole _ _ _ c.from_residual.ensures (some_first _ sum)

pub returns : goal.returns
unfolding tie_of
returns g c = record {
  emits =
      let first = rw (c.wire.ensures, c.constant-one.ensures) at c.in_ok-put.ensures.emits in
      let second = rw (c.wire-2.ensures, c.wire-3.ensures, c.constant-one.ensures) at c.put-2.ensures.emits in
      then_in _ _ _ _ _ first second;
}
