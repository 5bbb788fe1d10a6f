use Rattle.std.proofs.Common.{◌≡◌, ◌<◌, ◌≤◌, ◌-◌, ap, arith, get_or}
use Rattle.tv_core.proofs.Addition.{place_within, place_beyond, place_up_to}
use Rattle.tv_core.proofs.combination.place.Goals as goal

pub loop-at-init : goal.loop-at-init
loop-at-init c = (place_within c.args.wire c.args.terms.now, omega arith)

pub returns-then-before-wire-clause-place : goal.returns-then-before-wire-clause-place
returns-then-before-wire-clause-place c =
    let before = c.index-terms-at.result in
    let read : before.1 ≡ (get_or c.args.terms.now (c.loop-at.at - 1) before).1 = ap (λ t. t.1) c.index-terms-at.is in
    let below : (get_or c.args.terms.now (c.loop-at.at - 1) before).1
    < c.args.wire = omega (arith, c.if-before-wire.true, c.before-in-loop-at.view_is, c.wire.view_is) in
    omega (arith, place_beyond 0 c.args.wire c.args.terms.now (c.loop-at.at - 1) before c.requires (omega arith) below)

pub loop-at-preserved : goal.loop-at-preserved
loop-at-preserved c =
    let before = c.index-terms-at.result in
    let read : before.1 ≡ (get_or c.args.terms.now (c.loop-at.at - 1) before).1 = ap (λ t. t.1) c.index-terms-at.is in
    let above : c.args.wire ≤ (get_or c.args.terms.now (c.loop-at.at - 1) before).1 = omega
    (arith, c.if-before-wire.false, c.before-in-loop-at.view_is, c.wire.view_is) in
    (place_up_to c.args.wire c.args.terms.now (c.loop-at.at - 1) before (omega arith) above, omega arith)
