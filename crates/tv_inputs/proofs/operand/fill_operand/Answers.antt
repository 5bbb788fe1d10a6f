use Rattle.tv_core.proofs.Common.{first_given, in_given, gives_refused_whole}
use Rattle.tv_inputs.proofs.operand.fill_operand.Goals as goal

pub returns-in_err-give : goal.returns-in_err-give
returns-in_err-give g c =
    let word = rw c.from.ensures at c.in_err-give.ensures.gives in
    gives_refused_whole _ _ _ _ _ _ c.from_residual.ensures (first_given _ word)

pub returns-clause-gives : goal.returns-clause-gives
returns-clause-gives g c =
    let word = rw c.from.ensures at c.in_ok-give.ensures.gives in
    let bits = rw c.from-2.ensures at c.fill_bits.ensures.gives in
    in_given _ _ _ word bits
