use Rattle.tv_core.proofs.Common.{refused_wires, all_then, some_then, some_first, all_last, refl}
use Rattle.tv_row_products.specs.RowDivision.{row_division_of}
use Rattle.tv_row_products.proofs.row_divisions.row_division.Goals as goal

pub returns-in_err-kept : goal.returns-in_err-kept
unfolding row_division_of
returns-in_err-kept g c = refused_wires _ _ _ _ c.from_residual.ensures (some_first _ c.in_err-kept.ensures.emits)

pub returns-in_err-product : goal.returns-in_err-product
unfolding row_division_of
returns-in_err-product g c =
    refused_wires _ _ _ _ c.from_residual-in_err-product.ensures (some_then _ c.in_ok-kept.ensures.emits (some_first _ c.in_err-product.ensures.emits))

pub returns-in_err-gated : goal.returns-in_err-gated
unfolding row_division_of
returns-in_err-gated g c =
    refused_wires _ _ _ _ c.from_residual-in_err-gated.ensures (some_then _ c.in_ok-kept.ensures.emits (some_then _ c.in_ok-product.ensures.emits
    (some_first _ c.in_err-gated.ensures.emits)))

pub returns-in_err-put : goal.returns-in_err-put
unfolding row_division_of
returns-in_err-put g c =
    let tie = rw (c.set_room_below.ensures.terms, c.set_bits_less.ensures.terms) at c.in_err-put.ensures.emits in
    refused_wires _ _ _ _ c.from_residual-in_err-put.ensures (some_then _ c.in_ok-kept.ensures.emits (some_then _ c.in_ok-product.ensures.emits
    (some_then _ c.in_ok-gated.ensures.emits (some_first _ tie))))

pub returns-clause-emits : goal.returns-clause-emits
unfolding row_division_of
returns-clause-emits g c =
    let tie = rw (c.set_room_below.ensures.terms, c.set_bits_less.ensures.terms) at c.in_ok-put.ensures.emits in
    all_then _ c.in_ok-kept.ensures.emits (all_then _ c.in_ok-product.ensures.emits (all_then _ c.in_ok-gated.ensures.emits (all_last _ tie refl)))
