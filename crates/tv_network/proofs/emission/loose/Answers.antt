use Rattle.tv_core.proofs.Common.{◌+◌, ◌<◌, sym, arith, refused_whole, emits_as, emits_no_turn, emits_turn, turn_some, zero-mul}
use Rattle.tv_network.proofs.LastStage.{loose_within}
use Rattle.tv_network.proofs.Shapes.{one_more}
use Rattle.tv_network.proofs.SlotLaws.{items_short}
use Rattle.tv_network.proofs.StagesItems.{made_later}
use Rattle.tv_network.specs.Network.{loose_count}
use Rattle.tv_network.specs.Stages.{output_at, stages_wires}
use Rattle.tv_stages.specs.Stages.{stage_count}
use Rattle.tv_network.proofs.emission.loose.Goals as goal

pub loop-j-init : goal.loop-j-init
loop-j-init g c = let none = sym (zero-mul 2) in record { emits = emits_as none none (emits_no_turn _ _ c.requires.room.whole) }

pub kept-requires-clause-made : goal.kept-requires-clause-made
kept-requires-clause-made g c =
    let s = c.args.levels.now in
    let n = s.network in
    let pair = g.I.Inputs.pair c.args.items.now in
    let grown = c.loop-j.invariant.emits.grows in
    let few : c.loop-j.j < loose_count n = omega (arith, c.loop-j-test.true, c.loose_count-j-end.ensures) in
    let within : c.loose_slot.result < n.items = omega (arith, c.loose_slot.ensures, loose_within n c.loop-j.j few) in
    let last = c.stages.ensures.is in
    rw (c.set_item.ensures, last) (made_later 64 (output_at n s.first pair c.loose_slot.result) (s.first + stages_wires n) _
    (omega (arith, c.requires.start, grown.wires))
    (items_short n s.first pair c.requires.items.few c.requires.items.made (stage_count n.items) (omega arith) c.loose_slot.result within))

pub returns-in_err-kept : goal.returns-in_err-kept
returns-in_err-kept g c =
    let few : c.loop-j.j < loose_count c.args.levels.now.network = omega (arith, c.loop-j-test.true, c.loose_count-j-end.ensures) in
    let kept = rw (c.set_item.ensures, c.loose_slot.ensures, c.stages.ensures.is) at c.in_err-kept.ensures.emits in
    refused_whole _ _ _ c.from_residual.ensures (turn_some _ _ _ c.loop-j.invariant.emits few kept)

pub loop-j-preserved : goal.loop-j-preserved
loop-j-preserved g c =
    let kept = rw (c.set_item.ensures, c.loose_slot.ensures, c.stages.ensures.is) at c.in_ok-kept.ensures.emits in
    let more = one_more c.loop-j.j 2 in
    record { emits = emits_as more more (emits_turn _ _ _ c.loop-j.invariant.emits kept) }
