use Rattle.tv_core.proofs.Common.{◌≡◌, ◌+◌, ◌-◌, ◌*◌, ap, ◌∙◌, arith, slice_index}
use Rattle.tv_benes.proofs.ThroughLaws.{missing_small}
use Rattle.tv_benes.specs.Through.{missing}
use Rattle.tv_route.proofs.Steps.{push_place, push_none}
use Rattle.tv_route.specs.Route.{down}
use Rattle.tv_route.proofs.settings.push_last.Goals as goal

pub overflow_sub-j-end : goal.overflow_sub-j-end
overflow_sub-j-end c = omega (arith, c.requires.some, c.missing-left_out.ensures, missing_small c.args.net)

pub loop-j-init : goal.loop-j-init
loop-j-init c = push_none c.args.bits.now.items (λ j. down c.args.marks.now (slice_index c.args.p.now (2 * (j + missing c.args.net))))

pub loop-j-preserved : goal.loop-j-preserved
loop-j-preserved c =
    push_place c.args.bits.now.items c.loop-j.bits.items _ c.loop-j.j
    (λ j. down c.args.marks.now (slice_index c.args.p.now (2 * (j + missing c.args.net)))) c.down.result c.loop-j.invariant
    (c.down.ensures ∙ ap (λ m. down c.args.marks.now (slice_index c.args.p.now (2 * (c.loop-j.j + m)))) c.missing-left_out.ensures) c.in_ok-push.ensures.items

pub down-requires : goal.down-requires
down-requires c = omega (arith, c.requires.permutes.below (2 * (c.loop-j.j + c.missing-left_out.result)) (omega (arith, c.loop-j-test.true)), c.requires.long)

pub returns : goal.returns
returns c =
    let all : c.loop-j.j ≡ c.args.n - missing c.args.net = omega (arith, c.missing-left_out.ensures) in
    rw all at c.loop-j.invariant
