use Rattle.tv_core.proofs.Common.{first_given, in_given, gives_refused_whole}
use Rattle.tv_core.proofs.ValuesChain.{some_given}
use Rattle.tv_arithmetic.proofs.arithmetic.fill_shifts.Goals as goal

pub returns-in_err-fill_row_division : goal.returns-in_err-fill_row_division
returns-in_err-fill_row_division g c = gives_refused_whole _ _ _ _ _ _ c.from_residual.ensures (first_given _ c.in_err-fill_row_division.ensures.gives)

pub returns-in_err-fill_shift_power : goal.returns-in_err-fill_shift_power
returns-in_err-fill_shift_power g c =
    gives_refused_whole _ _ _ _ _ _ c.from_residual-in_err-fill_shift_power.ensures (some_given _ c.in_ok-fill_row_division.ensures.gives
    (first_given _ c.in_err-fill_shift_power.ensures.gives))

pub returns-in_err-give : goal.returns-in_err-give
returns-in_err-give g c =
    let p2 = rw (c.mul-2.ensures, c.mul.ensures, c.from.ensures, c.from-2.ensures, c.power-power.ensures) at c.in_err-give.ensures.gives in
    gives_refused_whole _ _ _ _ _ _ c.from_residual-in_err-give.ensures (some_given _ c.in_ok-fill_row_division.ensures.gives
    (some_given _ c.in_ok-fill_shift_power.ensures.gives (first_given _ p2)))

pub returns-clause-gives : goal.returns-clause-gives
returns-clause-gives g c =
    let p2 = rw (c.mul-2.ensures, c.mul.ensures, c.from.ensures, c.from-2.ensures, c.power-power.ensures) at c.in_ok-give.ensures.gives in
    let p3 = rw c.power-power.ensures at c.fill_right_shift.ensures.gives in
    in_given _ _ _ c.in_ok-fill_row_division.ensures.gives (in_given _ _ _ c.in_ok-fill_shift_power.ensures.gives (in_given _ _ _ p2 p3))
