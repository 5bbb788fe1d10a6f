use Rattle.tv_core.proofs.Common.{first_given, in_given, gives_refused_whole}
use Rattle.tv_muldiv.proofs.signed_products.fill_signed_high.Goals as goal

pub returns-in_err-fill_halves : goal.returns-in_err-fill_halves
returns-in_err-fill_halves g c =
    let halves = rw (c.product_twos-product.ensures) at c.in_err-fill_halves.ensures.gives in
    gives_refused_whole _ _ _ _ _ _ c.from_residual.ensures (first_given _ halves)

pub returns-clause-gives : goal.returns-clause-gives
returns-clause-gives g c =
    let halves = rw (c.product_twos-product.ensures) at c.in_ok-fill_halves.ensures.gives in
    let over = rw (c.excess_in.ensures, c.product_twos-product.ensures) at c.fill_nonzero.ensures.gives in
    in_given _ _ _ halves over
