use Rattle.tv_core.proofs.Common.{◌≡◌, ◌+◌, ◌<◌, sym, ◌∙◌, ap, ap₂, arith, refused_whole, emits_as, emits_no_turn, emits_turn, turn_some, zero-mul}
use Rattle.tv_network.proofs.StagesItems.{made_later}
use Rattle.tv_network.proofs.Shapes.{one_more}
use Rattle.tv_network.proofs.SlotLaws.{items_short}
use Rattle.tv_network.specs.Stages.{form_of, item_at, lower_slot, upper_slot, stage_of, switches_in, wires_before}
use Rattle.tv_network.specs.Switches.{width}
use Rattle.tv_network.proofs.emission.stage.Goals as goal

pub loop-at-init : goal.loop-at-init
loop-at-init g c =
    let none = sym (zero-mul (width (form_of c.args.levels.now.network c.args.l))) in
    record { emits = emits_as none none (emits_no_turn _ _ c.requires.room.whole) }

pub switch-requires-clause-x_made : goal.switch-requires-clause-x_made
switch-requires-clause-x_made g c =
    let s = c.args.levels.now in
    let l = c.args.l in
    let n = s.network in
    let is = c.level-level.ensures in
    let pair = g.I.Inputs.pair c.args.items.now in
    let grown = c.loop-at.invariant.emits.grows in
    let within = rw (is.slots, is.number) at c.slot-lower.ensures.within in
    rw c.set_item.ensures (made_later 64 (item_at n s.first pair l c.slot-lower.result) (s.first + wires_before n l) _
    (omega (arith, c.requires.start, grown.wires))
    (items_short n s.first pair c.requires.items.few c.requires.items.made l (omega (arith, c.requires.within)) c.slot-lower.result (omega (arith, within))))

pub switch-requires-clause-y_made : goal.switch-requires-clause-y_made
switch-requires-clause-y_made g c =
    let s = c.args.levels.now in
    let l = c.args.l in
    let n = s.network in
    let is = c.level-level.ensures in
    let pair = g.I.Inputs.pair c.args.items.now in
    let grown = c.loop-at.invariant.emits.grows in
    let y = c.slot-lower.result + c.stride.result in
    let within = rw (is.slots, is.number) at c.slot-lower.ensures.within in
    let stride = rw (is.slots, is.number) at c.stride.ensures.is in
    rw c.set_item-in-loop-at.ensures (made_later 64 (item_at n s.first pair l y) (s.first + wires_before n l) _
    (omega (arith, c.requires.start, grown.wires))
    (items_short n s.first pair c.requires.items.few c.requires.items.made l (omega (arith, c.requires.within)) y (omega (arith, within, stride))))

pub loop-at-preserved : goal.loop-at-preserved
loop-at-preserved g c =
    let s = c.args.levels.now in
    let l = c.args.l in
    let n = s.network in
    let is = c.level-level.ensures in
    let item = item_at n s.first (g.I.Inputs.pair c.args.items.now) l in
    let lower = rw (is.net, is.slots, is.number) at c.slot-lower.ensures.is in
    let stride = rw (is.slots, is.number) at c.stride.ensures.is in
    let x : c.set_item.new.item ≡ item (lower_slot n l c.loop-at.at) = c.set_item.ensures ∙ ap item lower in
    let y : c.set_item-in-loop-at.new.item ≡ item (upper_slot n l c.loop-at.at) = c.set_item-in-loop-at.ensures
    ∙ ap₂ (λ a b. item (a + b)) lower stride in
    let switch = rw (x, y, is.form) at c.in_ok-switch.ensures.emits in
    let more = one_more c.loop-at.at (width (form_of n l)) in
    record { emits = emits_as more more (emits_turn _ _ _ c.loop-at.invariant.emits switch) }

pub returns-in_err-switch : goal.returns-in_err-switch
unfolding stage_of
returns-in_err-switch g c =
    let s = c.args.levels.now in
    let l = c.args.l in
    let n = s.network in
    let is = c.level-level.ensures in
    let item = item_at n s.first (g.I.Inputs.pair c.args.items.now) l in
    let lower = rw (is.net, is.slots, is.number) at c.slot-lower.ensures.is in
    let stride = rw (is.slots, is.number) at c.stride.ensures.is in
    let x : c.set_item.new.item ≡ item (lower_slot n l c.loop-at.at) = c.set_item.ensures ∙ ap item lower in
    let y : c.set_item-in-loop-at.new.item ≡ item (upper_slot n l c.loop-at.at) = c.set_item-in-loop-at.ensures
    ∙ ap₂ (λ a b. item (a + b)) lower stride in
    let switch = rw (x, y, is.form) at c.in_err-switch.ensures.emits in
    let count = rw (is.net, is.slots, is.number) at c.switches-at-end.ensures.is in
    let test : c.loop-at.at < switches_in n l = omega (arith, c.loop-at-test.true, count) in
    refused_whole _ _ _ c.from_residual.ensures (turn_some _ _ _ c.loop-at.invariant.emits test switch)

pub returns : goal.returns
unfolding stage_of
returns g c =
    let s = c.args.levels.now in
    let l = c.args.l in
    let n = s.network in
    let is = c.level-level.ensures in
    let count = rw (is.net, is.slots, is.number) at c.switches-at-end.ensures.is in
    let all : c.loop-at.at ≡ switches_in n l = omega (arith, c.loop-at-test.false, count) in
    record { emits = rw all at c.loop-at.invariant.emits }
