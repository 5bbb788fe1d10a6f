use Rattle.tv_double_checks.proofs.Sums.{then_added}
use Rattle.tv_double_checks.proofs.differences.set_first_less.Goals as goal

pub returns-clause-terms : goal.returns-clause-terms
returns-clause-terms g c =
    let first = rw c.clear.ensures at c.add_terms.ensures.terms in
    let cell = rw (c.minus_unit.ensures, c.terms.ensures.terms) at c.add_scaled.ensures.terms in
    then_added _ _ _ _ first cell
