use Rattle.tv_core.proofs.Common.{some_first, refused_whole, then_in}
use Rattle.tv_arithmetic.specs.Arithmetic.{products_of}
use Rattle.tv_arithmetic.proofs.arithmetic.put_products.Goals as goal

pub returns-in_err-row_product : goal.returns-in_err-row_product
unfolding products_of
returns-in_err-row_product g c =
    let p0 = rw c.set_opcodes.ensures.terms at c.in_err-row_product.ensures.emits in
    refused_whole _ _ _ c.from_residual.ensures (some_first _ p0)

pub returns : goal.returns
unfolding products_of
returns g c = record {
  emits =
      let p0 = rw c.set_opcodes.ensures.terms at c.in_ok-row_product.ensures.emits in
      let p1 = rw (c.set_opcodes-2.ensures.terms, c.with_sign-left.ensures, c.with_sign-right.ensures) at c.row_signed_product.ensures.emits in
      then_in _ _ _ _ _ p0 p1;
}
