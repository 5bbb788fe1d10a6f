use Rattle.std.proofs.Common.{inl, refl}
use Rattle.tv_word.proofs.SignedLaws.{product_fits, product_is}
use Rattle.tv_word.proofs.arithmetic.product_16.Goals as goal

pub overflow_mul-result : goal.overflow_mul-result
overflow_mul-result c =
    product_fits 16 c.args.s c.args.a c.signed16.result c.signed16-2.result (inl refl) c.requires.s_word c.requires.a_word c.signed16.ensures
    c.signed16-2.ensures

pub returns : goal.returns
returns c =
    product_is 16 c.args.s c.args.a c.signed16.result c.signed16-2.result (inl refl) c.requires.s_word c.requires.a_word c.signed16.ensures
    c.signed16-2.ensures
