use Rattle.std.proofs.Common.{inr, refl, arith}
use Rattle.tv_word.proofs.SignedLaws.{product_fits, product_is}
use Rattle.tv_word.proofs.arithmetic.product_32.Goals as goal

pub overflow_mul-result : goal.overflow_mul-result
overflow_mul-result c =
    product_fits 32 c.args.s c.args.a c.signed.result c.signed-2.result (inr refl) (omega (arith, c.ranges.s)) (omega (arith, c.ranges.a))
    c.signed.ensures c.signed-2.ensures

pub returns : goal.returns
returns c =
    product_is 32 c.args.s c.args.a c.signed.result c.signed-2.result (inr refl) (omega (arith, c.ranges.s)) (omega (arith, c.ranges.a))
    c.signed.ensures c.signed-2.ensures
