use Rattle.tv_core.proofs.Common.{first_given, in_given, gives_refused_whole}
use Rattle.tv_core.proofs.ValuesChain.{some_given}
use Rattle.tv_cmp.proofs.comparison.fill_compare.Goals as goal

pub returns-in_err-give_values : goal.returns-in_err-give_values
returns-in_err-give_values g c =
    let flags = rw (c.from.ensures, c.from-2.ensures) at c.in_err-give_values.ensures.gives in
    gives_refused_whole _ _ _ _ _ _ c.from_residual.ensures (first_given _ flags)

pub returns-in_err-fill_bits : goal.returns-in_err-fill_bits
returns-in_err-fill_bits g c =
    let flags = rw (c.from.ensures, c.from-2.ensures) at c.in_ok-give_values.ensures.gives in
    let size = rw c.sizes-size.ensures.size at c.in_err-fill_bits.ensures.gives in
    gives_refused_whole _ _ _ _ _ _ c.from_residual-in_err-fill_bits.ensures (some_given _ flags (first_given _ size))

pub returns-in_err-give : goal.returns-in_err-give
returns-in_err-give g c =
    let flags = rw (c.from.ensures, c.from-2.ensures) at c.in_ok-give_values.ensures.gives in
    let size = rw c.sizes-size.ensures.size at c.in_ok-fill_bits.ensures.gives in
    let difference = rw c.sizes-size.ensures.signed at c.in_err-give.ensures.gives in
    gives_refused_whole _ _ _ _ _ _ c.from_residual-in_err-give.ensures (some_given _ flags (some_given _ size (first_given _ difference)))

pub returns-in_err-fill_prefix_difference : goal.returns-in_err-fill_prefix_difference
returns-in_err-fill_prefix_difference g c =
    let flags = rw (c.from.ensures, c.from-2.ensures) at c.in_ok-give_values.ensures.gives in
    let size = rw c.sizes-size.ensures.size at c.in_ok-fill_bits.ensures.gives in
    let difference = rw c.sizes-size.ensures.signed at c.in_ok-give.ensures.gives in
    let products = rw (c.sizes-size.ensures.signed, c.from-3.ensures, c.from-4.ensures) at c.in_err-fill_prefix_difference.ensures.gives in
    gives_refused_whole _ _ _ _ _ _ c.from_residual-in_err-fill_prefix_difference.ensures (some_given _ flags (some_given _ size (some_given _ difference
    (first_given _ products))))

pub returns-clause-gives : goal.returns-clause-gives
returns-clause-gives g c =
    let flags = rw (c.from.ensures, c.from-2.ensures) at c.in_ok-give_values.ensures.gives in
    let size = rw c.sizes-size.ensures.size at c.in_ok-fill_bits.ensures.gives in
    let difference = rw c.sizes-size.ensures.signed at c.in_ok-give.ensures.gives in
    let products = rw (c.sizes-size.ensures.signed, c.from-3.ensures, c.from-4.ensures) at c.in_ok-fill_prefix_difference.ensures.gives in
    let greater = rw (c.from-5.ensures, c.is_greater.ensures) at c.give-2.ensures.gives in
    in_given _ _ _ flags (in_given _ _ _ size (in_given _ _ _ difference (in_given _ _ _ products greater)))
