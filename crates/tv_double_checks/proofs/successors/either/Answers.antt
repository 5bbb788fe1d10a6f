use Rattle.tv_core.proofs.Common.{some_first, refused_whole, then_in}
use Rattle.tv_double_checks.specs.Within.{either_of}
use Rattle.tv_double_checks.proofs.successors.either.Goals as goal

pub returns-in_err-put : goal.returns-in_err-put
unfolding either_of
returns-in_err-put g c =
    let cells = rw (c.set_wire.ensures.terms, c.set_cell_difference.ensures.terms, c.terms.ensures.terms, c.clear.ensures) at c.in_err-put.ensures.emits in
    refused_whole _ _ _ c.from_residual.ensures (some_first _ cells)

pub returns : goal.returns
unfolding either_of
returns g c =
    let cells = rw (c.set_wire.ensures.terms, c.set_cell_difference.ensures.terms, c.terms.ensures.terms, c.clear.ensures) at c.in_ok-put.ensures.emits in
    let places = rw (c.set_wire.ensures.terms, c.plus.ensures.terms, c.set_place_difference.ensures.terms, c.terms-2.ensures.terms, c.clear.ensures)
    at c.put-2.ensures.emits in
    record { emits = then_in _ _ _ _ _ cells places }
