use Rattle.std.proofs.Common.{◌-◌, ap₂, arith}
use Rattle.tv_stages.specs.Stages.{switch_count}
use Rattle.tv_stages.proofs.Shapes.{stage_gap, stage_few}
use Rattle.tv_stages.proofs.shape.Stage.switches.Goals as goal

pub overflow_sub-result : goal.overflow_sub-result
overflow_sub-result c = stage_gap c.args.self.is

pub returns-clause-is : goal.returns-clause-is
unfolding switch_count
returns-clause-is c = ap₂ (λ n g. n - g) c.args.self.is.numbers c.args.self.is.gap

pub returns-clause-few : goal.returns-clause-few
returns-clause-few c = let h = stage_few c.args.self.is in omega arith
