use Rattle.tv_double_checks.proofs.Sums.{then_added}
use Rattle.tv_double_checks.proofs.differences.set_cell_difference.Goals as goal

pub returns-clause-terms : goal.returns-clause-terms
returns-clause-terms g c =
    let sum = rw (c.neg.ensures, c.terms.ensures.terms) at c.add_scaled.ensures.terms in
    then_added _ _ _ _ c.set_first_less.ensures.terms sum
