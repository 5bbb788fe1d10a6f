use Rattle.std.proofs.Common.{arith}
use Rattle.tv_stages.proofs.Shapes.{stride_few}
use Rattle.tv_stages.proofs.shape.insert_bit.Goals as goal

pub overflow_mul-result : goal.overflow_mul-result
overflow_mul-result c = omega (arith, stride_few c.args.depth c.requires.within)
