use Rattle.tv_core.proofs.Common.{◌≡◌, ◌+◌, ◌*◌, ◌%◌, [], ◌∷◌, ◌++◌, ◌∙◌, ap, ap₂, arith, normal}
use Rattle.tv_core.specs.declared.field.TheConstants.{P}
use Rattle.tv_double_checks.proofs.Sums.{then_added}
use Rattle.tv_double_checks.proofs.image_pairs.set_places_after.Goals as goal

pub returns-clause-terms : goal.returns-clause-terms
returns-clause-terms g c =
    let one = rw c.clear.ensures at c.add_terms.ensures.terms in
    let after : c.add.result ≡ c.args.own.now.place + 1 = omega (arith, c.add.ensures, c.from.ensures) in
    let two = c.add-2.ensures.terms
    ∙ ap (λ k. normal (c.add_terms.new.self ++ (k, 0) ∷ [])) (c.mul.ensures ∙ ap₂ (λ m n. m * n % P) c.minus_word_count.ensures after) in
    let three = rw (c.neg.ensures, c.terms.ensures.terms) at c.add_scaled.ensures.terms in
    then_added _ _ _ _ (then_added _ _ _ _ one two) three
