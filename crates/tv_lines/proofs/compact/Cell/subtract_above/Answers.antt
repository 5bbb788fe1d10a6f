use Rattle.tv_core.proofs.Common.{◌≡◌, ◌-◌, ◌*◌, ◌%◌, ◌^◌, [], ◌∷◌, ◌++◌, ◌∙◌, ap, normal}
use Rattle.tv_core.specs.declared.field.TheConstants.{P}
use Rattle.tv_lines.proofs.CompactLaws.{two_terms}
use Rattle.tv_lines.proofs.compact.Cell.subtract_above.Goals as goal

pub returns-in-After-clause-terms : goal.returns-in-After-clause-terms
returns-in-After-clause-terms c =
    let x = c.args.lc.now in
    let w = c.in-After.wire in
    let least : c.neg-in-After.result ≡ P - 2 ^ 32 = c.neg-in-After.ensures ∙ ap (λ n. (P - n) % P) c.of-in-After.ensures in
    let factor : c.mul-in-After.result ≡ (P - 2 ^ 32) * c.in-After.factor % P = c.mul-in-After.ensures ∙ ap (λ n. n * c.in-After.factor % P) least in
    let one : c.neg-in-After-2.result ≡ P - 2 ^ 32 = c.neg-in-After-2.ensures ∙ ap (λ n. (P - n) % P) c.of-in-After-2.ensures in
    let first = c.add-in-After.ensures.terms ∙ ap (λ k. normal (x ++ (k, w) ∷ [])) factor in
    let second = c.add-in-After-2.ensures.terms ∙ ap (λ k. normal (c.add-in-After.new.self ++ (k, 0) ∷ [])) one in
    rw c.in-After.is (two_terms x c.add-in-After.new.self c.add-in-After-2.new.self ((P - 2 ^ 32) * c.in-After.factor % P, w) (P - 2 ^ 32, 0) first second)
