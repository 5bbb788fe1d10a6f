use Rattle.tv_core.proofs.Common.{first_given, in_given, gives_refused_whole}
use Rattle.tv_core.proofs.ValuesChain.{some_given}
use Rattle.tv_shift.proofs.values.fill_shift.Goals as goal

pub returns-in_err-fill_parts : goal.returns-in_err-fill_parts
returns-in_err-fill_parts g c = gives_refused_whole _ _ _ _ _ _ c.from_residual.ensures (first_given _ c.in_err-fill_parts.ensures.gives)

pub returns-in_err-give_values : goal.returns-in_err-give_values
returns-in_err-give_values g c =
    let near = rw c.ends_values.ensures at c.in_err-give_values.ensures.gives in
    gives_refused_whole _ _ _ _ _ _ c.from_residual-in_err-give_values.ensures (some_given _ c.in_ok-fill_parts.ensures.gives (first_given _ near))

pub returns-in_err-fill_zero : goal.returns-in_err-fill_zero
returns-in_err-fill_zero g c =
    let near = rw c.ends_values.ensures at c.in_ok-give_values.ensures.gives in
    let zero = rw (c.from.ensures, c.half_log.ensures) at c.in_err-fill_zero.ensures.gives in
    gives_refused_whole _ _ _ _ _ _ c.from_residual-in_err-fill_zero.ensures
    (some_given _ c.in_ok-fill_parts.ensures.gives (some_given _ near (first_given _ zero)))

pub returns-clause-gives : goal.returns-clause-gives
returns-clause-gives g c =
    let near = rw c.ends_values.ensures at c.in_ok-give_values.ensures.gives in
    let zero = rw (c.from.ensures, c.half_log.ensures) at c.in_ok-fill_zero.ensures.gives in
    let ends = rw (c.from-2.ensures, c.from-3.ensures, c.shifted_left.ensures.plain, c.shifted_right.ensures.plain) at c.give_values-2.ensures.gives in
    in_given _ _ _ c.in_ok-fill_parts.ensures.gives (in_given _ _ _ near (in_given _ _ _ zero ends))
