use Rattle.tv_core.proofs.Common.{◌≡◌, ◌+◌, ◌^◌, ◌∙◌, ap, ap₂, arith}
use Rattle.tv_network.proofs.CostLaws.{stage_terms-zero, stage_terms-more}
use Rattle.tv_network.proofs.Shapes.{wires_mono}
use Rattle.tv_network.proofs.StagesItems.{made_later, wires_rise}
use Rattle.tv_network.proofs.SlotLaws.{items_short}
use Rattle.tv_network.specs.Costs.{stage_terms}
use Rattle.tv_network.specs.Stages.{item_at, lower_slot, upper_slot, switches_in, wires_before}
use Rattle.tv_stages.specs.Stages.{stage_count}
use Rattle.tv_network.proofs.costs.stage_terms.Goals as goal

pub loop-at-init : goal.loop-at-init
loop-at-init g c =
    let s = c.args.levels.now in
    record { is = stage_terms-zero s.network c.args.l (item_at s.network s.first (g.I.Inputs.pair c.args.items.now) c.args.l); few = omega arith }

pub switch_terms-switch-requires-clause-x : goal.switch_terms-switch-requires-clause-x
switch_terms-switch-requires-clause-x g c =
    let s = c.args.levels.now in
    let l = c.args.l in
    let n = s.network in
    let is = c.level-level.ensures in
    let pair = g.I.Inputs.pair c.args.items.now in
    let within = rw (is.slots, is.number) at c.slot-lower.ensures.within in
    rw c.set_item.ensures (made_later 64 (item_at n s.first pair l c.slot-lower.result) (s.first + wires_before n l) (2 ^ 32)
    (omega (arith, s.are.below, wires_mono n l (stage_count n.items) c.requires.within, wires_rise n l))
    (items_short n s.first pair c.requires.items.few c.requires.items.made l (omega (arith, c.requires.within)) c.slot-lower.result (omega (arith, within))))

pub switch_terms-switch-requires-clause-y : goal.switch_terms-switch-requires-clause-y
switch_terms-switch-requires-clause-y g c =
    let s = c.args.levels.now in
    let l = c.args.l in
    let n = s.network in
    let is = c.level-level.ensures in
    let pair = g.I.Inputs.pair c.args.items.now in
    let y = c.slot-lower.result + c.stride.result in
    let within = rw (is.slots, is.number) at c.slot-lower.ensures.within in
    let stride = rw (is.slots, is.number) at c.stride.ensures.is in
    rw c.set_item-in-loop-at.ensures (made_later 64 (item_at n s.first pair l y) (s.first + wires_before n l) (2 ^ 32)
    (omega (arith, s.are.below, wires_mono n l (stage_count n.items) c.requires.within, wires_rise n l))
    (items_short n s.first pair c.requires.items.few c.requires.items.made l (omega (arith, c.requires.within)) y (omega (arith, within, stride))))

pub loop-at-preserved : goal.loop-at-preserved
loop-at-preserved g c =
    let s = c.args.levels.now in
    let l = c.args.l in
    let n = s.network in
    let is = c.level-level.ensures in
    let item = item_at n s.first (g.I.Inputs.pair c.args.items.now) l in
    let lower = rw (is.net, is.slots, is.number) at c.slot-lower.ensures.is in
    let stride = rw (is.slots, is.number) at c.stride.ensures.is in
    let x : c.set_item.new.item ≡ item (lower_slot n l c.loop-at.at) = c.set_item.ensures ∙ ap item lower in
    let y : c.set_item-in-loop-at.new.item ≡ item (upper_slot n l c.loop-at.at) = c.set_item-in-loop-at.ensures
    ∙ ap₂ (λ a b. item (a + b)) lower stride in
    let switch = rw (x, y, is.form) at c.switch_terms-switch.ensures.is in
    record {
      is = ap₂ (λ a b. a + b) c.loop-at.invariant.is (c.from-terms.ensures ∙ switch) ∙ stage_terms-more n l item c.loop-at.at;
      few = omega (arith, c.loop-at.invariant.few, c.from-terms.ensures, c.switch_terms-switch.ensures.few);
    }

pub returns-clause-is : goal.returns-clause-is
unfolding stage_terms
returns-clause-is g c =
    let s = c.args.levels.now in
    let l = c.args.l in
    let n = s.network in
    let is = c.level-level.ensures in
    let count = rw (is.net, is.slots, is.number) at c.switches-at-end.ensures.is in
    let all : c.loop-at.at ≡ switches_in n l = omega (arith, c.loop-at-test.false, count) in
    rw all at c.loop-at.invariant.is
