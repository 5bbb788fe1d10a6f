use Rattle.tv_core.proofs.Common.{arith}
use Rattle.tv_network.proofs.Shapes.{stages_few}
use Rattle.tv_network.proofs.shape.Network.stages.Goals as goal

pub returns-clause-few : goal.returns-clause-few
returns-clause-few c = omega (arith, c.stage_count.ensures.is, stages_few c.args.self.items c.requires)
