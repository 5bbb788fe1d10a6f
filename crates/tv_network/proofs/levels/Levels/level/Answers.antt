use Rattle.tv_core.proofs.Common.{arith}
use Rattle.tv_network.proofs.Shapes.{stages_few}
use Rattle.tv_network.proofs.levels.Levels.level.Goals as goal

pub listed : goal.listed
listed c = omega (arith, c.requires, c.args.self.now.are.long, stages_few c.args.self.now.network.items c.args.self.now.are.few)

pub bounds-self-l : goal.bounds-self-l
bounds-self-l c = omega (arith, c.requires, stages_few c.args.self.now.network.items c.args.self.now.are.few)
