use Rattle.std.proofs.Common.{◌≡◌, nat_lt, length, ◌∙◌, ap₂, subst, arith}
use Rattle.tv_stages.specs.Stages.{height, stage_count, switch_count}
use Rattle.tv_stages.specs.Walks.{bit_by, AreSetTo}
use Rattle.tv_stages.proofs.Shapes.{count_at, slot_at}
use Rattle.tv_stages.proofs.BitLists.{place_before, set_none, set_more}
use Rattle.tv_stages.proofs.settings.set_stage.Goals as goal

pub loop-at-init : goal.loop-at-init
loop-at-init c =
    let L = length c.args.r.now in
    set_none c.args.net L c.args.l (bit_by (nat_lt c.args.l (height L)) c.args.r.now c.args.marks.now) c.args.bits.now

pub bounds-bits-first : goal.bounds-bits-first
bounds-bits-first c =
    let L = length c.args.r.now in
    let made = c.new-stage.ensures in
    let count = c.switches-at-end.ensures.is
    ∙ count_at c.new-stage.result.net c.args.net c.new-stage.result.slots L c.new-stage.result.number c.args.l made.net made.slots made.number in
    let room = place_before c.args.net L c.args.l (stage_count L) c.loop-at.at c.requires.stage (omega (arith, count, c.loop-at-test.true)) in
    omega (arith, room, c.first_switch-first.ensures.is, c.requires.long, c.loop-at.invariant.long)

pub loop-at-preserved : goal.loop-at-preserved
loop-at-preserved c =
    let L = length c.args.r.now in
    let r = c.args.r.now in
    let marks = c.args.marks.now in
    let made = c.new-stage.ensures in
    let count = c.switches-at-end.ensures.is
    ∙ count_at c.new-stage.result.net c.args.net c.new-stage.result.slots L c.new-stage.result.number c.args.l made.net made.slots made.number in
    let slot = c.slot.ensures.is
    ∙ slot_at c.new-stage.result.net c.args.net c.new-stage.result.slots L c.new-stage.result.number c.args.l c.loop-at.at made.net made.slots made.number in
    let room = place_before c.args.net L c.args.l (stage_count L) c.loop-at.at c.requires.stage (omega (arith, count, c.loop-at-test.true)) in
    set_more c.args.net L c.args.l (bit_by (nat_lt c.args.l (height L)) r marks) c.loop-at.at c.first_switch-first.result c.args.bits.now c.loop-at.bits
    c.bit_by.result c.loop-at.invariant c.first_switch-first.ensures.is (omega (arith, room, c.first_switch-first.ensures.is, c.requires.long))
    (c.bit_by.ensures ∙ ap₂ (λ k x. bit_by (nat_lt c.args.l k) r marks x) c.height.ensures.is slot)

pub returns : goal.returns
returns c =
    let L = length c.args.r.now in
    let made = c.new-stage.ensures in
    let count = c.switches-at-end.ensures.is
    ∙ count_at c.new-stage.result.net c.args.net c.new-stage.result.slots L c.new-stage.result.number c.args.l made.net made.slots made.number in
    let last : c.loop-at.at ≡ switch_count c.args.net L c.args.l = omega (arith, count, c.loop-at-test.false, c.loop-at.auto.at-end) in
    subst (λ n. AreSetTo c.args.net L c.args.l n (bit_by (nat_lt c.args.l (height L)) c.args.r.now c.args.marks.now) c.args.bits.now c.loop-at.bits) last
    c.loop-at.invariant
