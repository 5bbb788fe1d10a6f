use Rattle.tv_bits.specs.Gate.{gated_of}
use Rattle.tv_core.proofs.Common.{refused_whole, some_first, then_in}
use Rattle.tv_rows.specs.RowDifference.{row_difference_of}
use Rattle.tv_rows.proofs.row_differences.row_difference.Goals as goal

pub returns-in_err-signs : goal.returns-in_err-signs
unfolding row_difference_of
returns-in_err-signs g c = refused_whole _ _ _ c.from_residual.ensures (some_first _ c.in_err-signs.ensures.emits)

pub returns : goal.returns
unfolding row_difference_of gated_of
returns g c =
    let last = rw (c.set_row_difference.ensures.terms, c.clear.ensures) at c.put.ensures.emits in
    record { emits = then_in _ _ _ _ _ c.in_ok-signs.ensures.emits last }
