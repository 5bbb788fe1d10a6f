use Rattle.tv_bits.specs.Gate.{gated_of}
use Rattle.tv_core.proofs.Common.{refused_whole, some_first, then_in}
use Rattle.tv_row_products.specs.RowSignedProduct.{row_signed_product_of}
use Rattle.tv_row_products.proofs.row_signed_products.row_signed_product.Goals as goal

pub returns-in_err-product : goal.returns-in_err-product
unfolding row_signed_product_of
returns-in_err-product g c = refused_whole _ _ _ c.from_residual.ensures (some_first _ c.in_err-product.ensures.emits)

pub returns : goal.returns
unfolding row_signed_product_of gated_of
returns g c =
    let last = rw (c.set_product_less.ensures.terms, c.clear.ensures) at c.put.ensures.emits in
    record { emits = then_in _ _ _ _ _ c.in_ok-product.ensures.emits last }
