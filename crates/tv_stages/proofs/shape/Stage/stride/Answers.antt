use Rattle.std.proofs.Common.{arith}
use Rattle.tv_stages.proofs.Shapes.{stage_deep, power_few}
use Rattle.tv_stages.proofs.shape.Stage.stride.Goals as goal

pub power-requires : goal.power-requires
power-requires c = let h = stage_deep c.args.self.is in omega arith

pub returns-clause-few : goal.returns-clause-few
returns-clause-few c = let h = power_few c.args.self.depth (stage_deep c.args.self.is) in let e = c.power.ensures in omega arith
