use Rattle.tv_core.proofs.Common.{arith}
use Rattle.tv_stages.specs.Stages.{height, stage_count}
use Rattle.tv_network.proofs.levels.blank.Goals as goal

pub new-requires-clause-within : goal.new-requires-clause-within
unfolding stage_count height
new-requires-clause-within c = omega arith
