use Rattle.tv_core.proofs.Common.{◌∷◌, ◌++◌, [], ◌∙◌, ap, normal}
use Rattle.tv_double_checks.proofs.Sums.{then_added, unit_once}
use Rattle.tv_double_checks.proofs.differences.set_cells_after.Goals as goal

pub returns-clause-terms : goal.returns-clause-terms
returns-clause-terms g c =
    let one = c.add.ensures.terms
    ∙ ap (λ k. normal (c.set_first_less.new.lc ++ (k, 0) ∷ [])) (c.minus_unit.ensures ∙ unit_once g.row.W c.requires.width) in
    then_added _ _ _ _ c.set_first_less.ensures.terms one
