use Rattle.std.proofs.Common.{◌-◌, ◌^◌, ◌≤◌, ap, arith}
use Rattle.tv_stages.specs.Stages.{height}
use Rattle.tv_stages.proofs.Heights.{height_more}
use Rattle.tv_stages.proofs.Depths.{stage_count_is}
use Rattle.tv_stages.proofs.shape.number_count.Goals as goal

pub overflow_sub-k : goal.overflow_sub-k
overflow_sub-k c = omega (arith, c.height-k.ensures.is, c.if-l-k.true, c.requires.within, stage_count_is c.args.slots)

pub overflow_sub-result : goal.overflow_sub-result
overflow_sub-result c =
    let few = stage_count_is c.args.slots in
    let some : 1 ≤ height c.args.slots = omega (arith, c.height-k.ensures.is, c.if-l-k.true, c.requires.within) in
    let more = height_more c.args.slots some in
    let same = ap (λ k. 2 ^ (k - 1)) c.height-k.ensures.is in
    omega (arith, c.power.ensures)
