use Rattle.tv_core.proofs.Common.{◌*◌}
use Rattle.tv_route.proofs.Steps.{push_place, push_none}
use Rattle.tv_route.specs.Route.{down}
use Rattle.tv_route.proofs.settings.push_first.Goals as goal

pub loop-j-init : goal.loop-j-init
loop-j-init c = push_none c.args.bits.now.items (λ j. down c.args.marks.now (2 * j))

pub loop-j-preserved : goal.loop-j-preserved
loop-j-preserved c = push_place c.args.bits.now.items c.loop-j.bits.items _ c.loop-j.j
    (λ j. down c.args.marks.now (2 * j)) c.down.result c.loop-j.invariant c.down.ensures c.in_ok-push.ensures.items
