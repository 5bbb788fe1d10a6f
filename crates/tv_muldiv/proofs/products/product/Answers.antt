use Rattle.tv_core.proofs.Common.{refused, all_then, some_then, some_first, all_last, refl, emits_as, arith}
use Rattle.tv_muldiv.specs.Product.{product_of}
use Rattle.tv_muldiv.proofs.products.product.Goals as goal

pub returns-in_err-first-clause-emits : goal.returns-in_err-first-clause-emits
unfolding product_of
returns-in_err-first-clause-emits g c =
    refused _ _ _ c.from_residual.ensures.1 (some_first _ c.in_err-first.ensures.emits)

pub returns-in_err-over-clause-emits : goal.returns-in_err-over-clause-emits
unfolding product_of
returns-in_err-over-clause-emits g c =
    let over = rw (c.set_number.ensures.terms, c.offset.ensures) at c.in_err-over.ensures.emits in
    refused _ _ _ c.from_residual-in_err-over.ensures.1 (some_then _ c.in_ok-first.ensures.emits (some_first _ over))

pub returns-clause-emits : goal.returns-clause-emits
unfolding product_of
returns-clause-emits g c =
    let over = rw (c.set_number.ensures.terms, c.offset.ensures) at c.in_ok-over.ensures.emits in
    rw c.offset.ensures (emits_as (omega arith) (omega arith) (all_then _ c.in_ok-first.ensures.emits (all_last _ over refl)))
