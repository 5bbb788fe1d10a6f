use Rattle.tv_core.proofs.Common.{refused_whole, some_first, then_in}
use Rattle.tv_row_products.specs.RowProduct.{row_product_of}
use Rattle.tv_row_products.proofs.row_products.row_product.Goals as goal

pub returns-in_err-product : goal.returns-in_err-product
unfolding row_product_of
returns-in_err-product g c = refused_whole _ _ _ c.from_residual.ensures (some_first _ c.in_err-product.ensures.emits)

pub returns : goal.returns
unfolding row_product_of
returns g c =
    let last = rw c.number.ensures at c.gated.ensures.emits in
    record { emits = then_in _ _ _ _ _ c.in_ok-product.ensures.emits last }
