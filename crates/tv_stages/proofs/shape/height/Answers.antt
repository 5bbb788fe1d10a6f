use Rattle.std.proofs.Common.{arith}
use Rattle.tv_stages.proofs.Shapes.{height_log, height_few}
use Rattle.tv_stages.proofs.shape.height.Goals as goal

pub returns-then-slots-lt2-clause-is : goal.returns-then-slots-lt2-clause-is
returns-then-slots-lt2-clause-is c = height_few c.args.slots c.if-slots-lt2.true

pub returns-clause-is : goal.returns-clause-is
returns-clause-is c = height_log c.args.slots c.ilog2.result c.ilog2.ensures.power_le (grind arith) c.if-slots-lt2.false
