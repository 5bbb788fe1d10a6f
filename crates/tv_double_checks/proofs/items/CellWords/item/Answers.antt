use Rattle.tv_core.proofs.Common.{◌*◌, ◌%◌, [], ◌∷◌, ◌++◌, ◌∙◌, ap₂, normal}
use Rattle.tv_core.specs.declared.field.TheConstants.{P}
use Rattle.tv_double_checks.proofs.Sums.{then_added}
use Rattle.tv_double_checks.proofs.items.CellWords.item.Goals as goal

pub returns-clause-item : goal.returns-clause-item
returns-clause-item g c =
    let cell = rw (c.clear.ensures, c.unit.ensures, c.terms.ensures.terms) at c.add_scaled.ensures.terms in
    let sum = rw c.terms-2.ensures.terms at c.add_terms.ensures.terms in
    let place = c.add.ensures.terms
    ∙ ap₂ (λ x k. normal (x ++ (k, 0) ∷ [])) c.clear-2.ensures (c.mul.ensures ∙ ap₂ (λ m n. m * n % P) c.word_count.ensures c.from.ensures) in
    let second = rw c.terms-3.ensures.terms at c.add_terms-2.ensures.terms in
    ap₂ (λ x y. record { first = x; second = y }) (then_added _ _ _ _ cell sum) (then_added _ _ _ _ place second)
