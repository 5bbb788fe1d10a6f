use Rattle.tv_core.proofs.Common.{some_then, some_first, refused_wires, then_in, arith, emits_in}
use Rattle.tv_block.proofs.Growing.{rises, both, now, after, effects_room, one_up, state_under, computed_under, before_under}
use Rattle.tv_block.proofs.Growing.{tapes_under, store_under}
use Rattle.tv_block.specs.Block.{effects_of}
use Rattle.tv_block.proofs.constraints.act.Goals as goal

pub returns-in_err-tapes : goal.returns-in_err-tapes
unfolding effects_of
returns-in_err-tapes g c = refused_wires _ _ _ _ c.from_residual.ensures (some_first _ c.in_err-tapes.ensures.emits)

pub returns-in_err-memory : goal.returns-in_err-memory
unfolding effects_of
returns-in_err-memory g c =
    refused_wires _ _ _ _ c.from_residual-in_err-memory.ensures (some_then _ c.in_ok-tapes.ensures.emits (some_first _ c.in_err-memory.ensures.emits))

pub returns-in_err-results : goal.returns-in_err-results
unfolding effects_of
returns-in_err-results g c =
    refused_wires _ _ _ _ c.from_residual-in_err-results.ensures (some_then _ c.in_ok-tapes.ensures.emits (some_then _ c.in_ok-memory.ensures.emits
    (some_first _ c.in_err-results.ensures.emits)))

pub returns-in_err-put_test : goal.returns-in_err-put_test
unfolding effects_of
returns-in_err-put_test g c =
    refused_wires _ _ _ _ c.from_residual-in_err-put_test.ensures (some_then _ c.in_ok-tapes.ensures.emits (some_then _ c.in_ok-memory.ensures.emits
    (some_then _ c.in_ok-results.ensures.emits (some_first _ c.in_err-put_test.ensures.emits))))

pub returns-clause-emits : goal.returns-clause-emits
unfolding effects_of
returns-clause-emits g c =
    emits_in _ _ _ _ _ (omega arith) (omega arith) (then_in _ _ _ _ _ c.in_ok-tapes.ensures.emits (then_in _ _ _ _ _ c.in_ok-memory.ensures.emits
    (then_in _ _ _ _ _ c.in_ok-results.ensures.emits (then_in _ _ _ _ _ c.in_ok-put_test.ensures.emits c.leave.ensures.emits))))

pub store-requires : goal.store-requires
store-requires g c =
    let r = c.requires in
    let g1 = c.in_ok-tapes.ensures.emits.grows in
    record {
      width = r.width;
      room = now _ _ (after g1 (effects_room _ r.room));
      state_made = state_under (rises g1) r.state_made;
      computed_made = computed_under (rises g1) r.computed_made;
      tapes_made = c.in_ok-tapes.ensures.below;
    }

pub results-requires : goal.results-requires
results-requires g c =
    let r = c.requires in
    let g1 = c.in_ok-tapes.ensures.emits.grows in
    let g2 = c.in_ok-memory.ensures.emits.grows in
    record {
      width = r.width;
      room = now 25 27 (after g2 (after g1 (effects_room _ r.room)));
      before_made = before_under (rises (both g1 g2)) r.state_made r.computed_made;
      byte_made = c.in_ok-memory.ensures.below.byte;
      tapes_made = tapes_under (rises g2) c.in_ok-tapes.ensures.below;
    }

pub put_test-requires-clause-room : goal.put_test-requires-clause-room
put_test-requires-clause-room g c =
    let g1 = c.in_ok-tapes.ensures.emits.grows in
    now 24 25 (after c.in_ok-results.ensures.emits.grows (after c.in_ok-memory.ensures.emits.grows (after g1 (effects_room _ c.requires.room))))

pub leave-requires : goal.leave-requires
leave-requires g c =
    let r = c.requires in
    let g1 = c.in_ok-tapes.ensures.emits.grows in
    let g2 = c.in_ok-memory.ensures.emits.grows in
    let g3 = c.in_ok-results.ensures.emits.grows in
    let g4 = c.in_ok-put_test.ensures.emits.grows in
    let g34 = both g3 g4 in
    record {
      width = r.width;
      room = after g4 (after g3 (after g2 (after g1 (effects_room _ r.room))));
      before_made = before_under (rises (both g1 (both g2 g34))) r.state_made r.computed_made;
      done_made = record {
        tapes = tapes_under (rises (both g2 g34)) c.in_ok-tapes.ensures.below;
        memory = store_under (rises g34) c.in_ok-memory.ensures.below;
        word = one_up (rises g4) c.in_ok-results.ensures.below.word;
      };
    }
