use Rattle.tv_core.proofs.Common.{first_given, in_given, gives_refused_whole}
use Rattle.tv_logic.proofs.ands.fill_and.Goals as goal

pub returns-in_err-give : goal.returns-in_err-give
returns-in_err-give g c =
    let first = rw c.from.ensures at c.in_err-give.ensures.gives in
    gives_refused_whole _ _ _ _ _ _ c.from_residual.ensures (first_given _ first)

pub returns-clause-gives : goal.returns-clause-gives
returns-clause-gives g c =
    let first = rw c.from.ensures at c.in_ok-give.ensures.gives in
    in_given _ _ _ first c.fill_pairs.ensures.gives
