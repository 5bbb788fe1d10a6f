use Rattle.std.proofs.Common.{length, arith}
use Rattle.tv_stages.proofs.Depths.{stage_count_is}
use Rattle.tv_stages.proofs.settings.set_after.Goals as goal

pub set_stage-requires-clause-stage : goal.set_stage-requires-clause-stage
set_stage-requires-clause-stage c =
    omega (arith, stage_count_is (length c.args.r.now), c.height-k.ensures.is, c.if-d-k.true, c.requires.depth)
