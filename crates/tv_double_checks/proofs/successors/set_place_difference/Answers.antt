use Rattle.tv_core.proofs.Common.{◌≡◌, ◌-◌, ◌*◌, ◌%◌, [], ◌∷◌, ◌++◌, ◌∙◌, ap, ap₂, normal}
use Rattle.tv_core.specs.declared.field.TheConstants.{P}
use Rattle.tv_double_checks.proofs.Sums.{then_added}
use Rattle.tv_double_checks.proofs.successors.set_place_difference.Goals as goal

pub returns-clause-terms : goal.returns-clause-terms
returns-clause-terms g c =
    let one = rw (c.clear.ensures, c.of.ensures) at c.add_scaled.ensures.terms in
    let two = c.add.ensures.terms
    ∙ ap (λ k. normal (c.add_scaled.new.self ++ (k, 0) ∷ [])) (c.mul.ensures ∙ ap₂ (λ m n. m * n % P) c.minus_unit.ensures c.from.ensures) in
    let three = rw (c.neg.ensures, c.terms.ensures.terms) at c.add_scaled-2.ensures.terms in
    let minus_two : c.neg-2.result ≡ P - 2 = c.neg-2.ensures ∙ ap (λ n. (P - n) % P) c.of-2.ensures in
    let four = rw (minus_two, c.terms-2.ensures.terms) at c.add_scaled-3.ensures.terms in
    then_added _ _ _ _ (then_added _ _ _ _ (then_added _ _ _ _ one two) three) four
