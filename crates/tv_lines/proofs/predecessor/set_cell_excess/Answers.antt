use Rattle.tv_core.proofs.Common.{◌≡◌, ◌-◌, ◌^◌, [], ◌∷◌, ◌++◌, ◌∙◌, ap, constant, scaled, Combination, normal}
use Rattle.tv_core.proofs.Unique.{normal-front}
use Rattle.tv_core.specs.declared.field.TheConstants.{P}
use Rattle.tv_lines.proofs.CompactLaws.{less_front}
use Rattle.tv_lines.specs.Compact.{cell_lc, word_lc}
use Rattle.tv_lines.proofs.predecessor.set_cell_excess.Goals as goal

pub returns-clause-terms : goal.returns-clause-terms
returns-clause-terms c =
    let b : Combination = constant (2 ^ 32) in
    let first : Combination = c.args.first.now in
    let old : Combination = scaled (P - 1) (word_lc c.args.line.now.old) in
    let one : c.plus.new.self ≡ b = c.plus.ensures.terms ∙ ap (λ x. x ++ (c.of.result, 0) ∷ []) c.clear.ensures ∙ ap (λ k. (k, 0) ∷ []) c.of.ensures in
    let two : c.add_terms.new.self ≡ normal (b ++ first) = c.add_terms.ensures.terms ∙ ap (λ x. normal (x ++ first)) one in
    let three : c.subtract_from.new.lc ≡ normal ((b ++ first) ++ old) =
    c.subtract_from.ensures.terms ∙ ap (λ x. normal (x ++ old)) two ∙ normal-front (b ++ first) old in
    less_front ((b ++ first) ++ old) c.subtract_from.new.lc (cell_lc c.args.line.now.cell) c.subtract_above.new.lc three c.subtract_above.ensures.terms
