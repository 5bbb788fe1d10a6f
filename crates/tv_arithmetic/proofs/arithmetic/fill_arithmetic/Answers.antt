use Rattle.tv_core.proofs.Common.{first_given, in_given, gives_refused_whole}
use Rattle.tv_core.proofs.ValuesChain.{some_given}
use Rattle.tv_arithmetic.proofs.arithmetic.fill_arithmetic.Goals as goal

pub returns-in_err-fill_rows : goal.returns-in_err-fill_rows
returns-in_err-fill_rows g c = gives_refused_whole _ _ _ _ _ _ c.from_residual.ensures (first_given _ c.in_err-fill_rows.ensures.gives)

pub returns-in_err-fill_row_difference : goal.returns-in_err-fill_row_difference
returns-in_err-fill_row_difference g c =
    let p1 = rw (c.is_signed_order.ensures, c.decomposed_word-decomposed.ensures) at c.in_err-fill_row_difference.ensures.gives in
    gives_refused_whole _ _ _ _ _ _ c.from_residual-in_err-fill_row_difference.ensures (some_given _ c.in_ok-fill_rows.ensures.gives (first_given _ p1))

pub returns-in_err-fill_row_product : goal.returns-in_err-fill_row_product
returns-in_err-fill_row_product g c =
    let p1 = rw (c.is_signed_order.ensures, c.decomposed_word-decomposed.ensures) at c.in_ok-fill_row_difference.ensures.gives in
    gives_refused_whole _ _ _ _ _ _ c.from_residual-in_err-fill_row_product.ensures (some_given _ c.in_ok-fill_rows.ensures.gives (some_given _ p1
    (first_given _ c.in_err-fill_row_product.ensures.gives)))

pub returns-in_err-fill_row_signed_product : goal.returns-in_err-fill_row_signed_product
returns-in_err-fill_row_signed_product g c =
    let p1 = rw (c.is_signed_order.ensures, c.decomposed_word-decomposed.ensures) at c.in_ok-fill_row_difference.ensures.gives in
    let p3 = rw c.decomposed_word-decomposed.ensures at c.in_err-fill_row_signed_product.ensures.gives in
    gives_refused_whole _ _ _ _ _ _ c.from_residual-in_err-fill_row_signed_product.ensures (some_given _ c.in_ok-fill_rows.ensures.gives (some_given _ p1
    (some_given _ c.in_ok-fill_row_product.ensures.gives (first_given _ p3))))

pub returns-clause-gives : goal.returns-clause-gives
returns-clause-gives g c =
    let p1 = rw (c.is_signed_order.ensures, c.decomposed_word-decomposed.ensures) at c.in_ok-fill_row_difference.ensures.gives in
    let p3 = rw c.decomposed_word-decomposed.ensures at c.in_ok-fill_row_signed_product.ensures.gives in
    in_given _ _ _ c.in_ok-fill_rows.ensures.gives (in_given _ _ _ p1 (in_given _ _ _ c.in_ok-fill_row_product.ensures.gives
    (in_given _ _ _ p3 c.fill_shifts.ensures.gives)))
