use Rattle.std.proofs.Common.{arith}
use Rattle.tv_stages.proofs.Shapes.{stride_few}
use Rattle.tv_stages.proofs.shape.pairs.Goals as goal

pub overflow_mul-result : goal.overflow_mul-result
overflow_mul-result c = omega (arith, stride_few c.args.depth c.requires.within)

pub overflow_mul-stride : goal.overflow_mul-stride
overflow_mul-stride c = omega (arith, stride_few c.args.depth c.requires.within)
