use Rattle.tv_core.proofs.Common.{arith, some_first, some_then, refused_whole, then_in, emits_in}
use Rattle.tv_double_checks.specs.Image.{image_pair_of}
use Rattle.tv_double_checks.proofs.image_pairs.image_pair.Goals as goal

pub returns-in_err-reach : goal.returns-in_err-reach
unfolding image_pair_of
returns-in_err-reach g c = refused_whole _ _ _ c.from_residual.ensures (some_first _ c.in_err-reach.ensures.emits)

pub returns-in_err-put : goal.returns-in_err-put
unfolding image_pair_of
returns-in_err-put g c =
    let cells = rw (c.set_cells_after.ensures.terms, c.terms.ensures.terms, c.set_cell_difference.ensures.terms, c.terms-2.ensures.terms, c.clear.ensures)
    at c.in_err-put.ensures.emits in
    refused_whole _ _ _ c.from_residual-in_err-put.ensures (some_then _ c.in_ok-reach.ensures.emits (some_first _ cells))

pub returns : goal.returns
unfolding image_pair_of
returns g c =
    let cells = rw (c.set_cells_after.ensures.terms, c.terms.ensures.terms, c.set_cell_difference.ensures.terms, c.terms-2.ensures.terms, c.clear.ensures)
    at c.in_ok-put.ensures.emits in
    let places = rw (c.set_cells_after.ensures.terms, c.terms.ensures.terms, c.set_place_excess.ensures.terms, c.terms-3.ensures.terms, c.clear.ensures)
    at c.put-2.ensures.emits in
    record { emits = emits_in _ _ _ _ _ (omega arith) (omega arith) (then_in _ _ _ _ _ c.in_ok-reach.ensures.emits (then_in _ _ _ _ _ cells places)) }
