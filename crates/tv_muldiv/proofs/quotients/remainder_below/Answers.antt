use Rattle.tv_core.proofs.Common.{some_first, refused_whole, then_in}
use Rattle.tv_bits.proofs.BitNumbers.{bits_sized}
use Rattle.tv_muldiv.specs.Quotient.{remainder_below_of}
use Rattle.tv_muldiv.proofs.quotients.remainder_below.Goals as goal

pub returns-in_err-above : goal.returns-in_err-above
unfolding remainder_below_of
returns-in_err-above g c =
    refused_whole _ _ _ c.from_residual.ensures (some_first _ c.in_err-above.ensures.emits)

pub returns : goal.returns
unfolding remainder_below_of
returns g c =
    let difference = rw (
      c.plus.ensures.terms,
      c.neg.ensures,
      c.plus_one-difference.ensures.terms,
      c.in_ok-above.ensures.size,
      bits_sized g.row.W c.args.y.now c.requires.y_word.size,
    ) at c.prefix_difference_by.ensures.emits in
    record { emits = then_in _ _ _ _ _ c.in_ok-above.ensures.emits difference }
