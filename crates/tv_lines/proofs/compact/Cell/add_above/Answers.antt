use Rattle.tv_core.proofs.Common.{◌≡◌, ◌*◌, ◌%◌, ◌^◌, [], ◌∷◌, ◌++◌, ◌∙◌, ap, normal}
use Rattle.tv_core.specs.declared.field.TheConstants.{P}
use Rattle.tv_lines.proofs.CompactLaws.{two_terms}
use Rattle.tv_lines.proofs.compact.Cell.add_above.Goals as goal

pub returns-in-After-clause-terms : goal.returns-in-After-clause-terms
returns-in-After-clause-terms c =
    let w = c.in-After.wire in
    let factor : c.mul-in-After.result ≡ 2 ^ 32 * c.in-After.factor % P =
    c.mul-in-After.ensures ∙ ap (λ n. n * c.in-After.factor % P) c.of-in-After.ensures in
    let first = c.add-in-After.ensures.terms
    ∙ ap (λ x. normal (x ++ (c.mul-in-After.result, w) ∷ [])) c.requires
    ∙ ap (λ k. normal ((k, w) ∷ [])) factor in
    let second = c.add-in-After-2.ensures.terms ∙ ap (λ k. normal (c.add-in-After.new.self ++ (k, 0) ∷ [])) c.of-in-After-2.ensures in
    rw c.in-After.is (two_terms [] c.add-in-After.new.self c.add-in-After-2.new.self (2 ^ 32 * c.in-After.factor % P, w) (2 ^ 32, 0) first second)
