use Rattle.tv_core.proofs.Common.{◌≡◌, ◌*◌, ◌%◌, ◌^◌, [], ◌∷◌, ◌++◌, ◌∙◌, ap, ap₂, constant, scaled, Combination, normal}
use Rattle.tv_core.proofs.Unique.{normal-front}
use Rattle.tv_core.specs.declared.field.TheConstants.{P}
use Rattle.tv_lines.specs.Compact.{word_lc}
use Rattle.tv_lines.specs.PackedLines.{packed_terms}
use Rattle.tv_lines.proofs.compact.CompactLine.item.Goals as goal

pub returns-clause-item : goal.returns-clause-item
returns-clause-item c =
    let new : Combination = word_lc c.args.self.now.new in
    let time : Combination = scaled (2 ^ 32 % P) (constant c.args.self.now.time) in
    let product : c.mul.result ≡ 2 ^ 32 * c.args.self.now.time % P = c.mul.ensures ∙ ap₂ (λ m n. m * n % P) c.of.ensures c.from.ensures in
    let second : c.add.new.self ≡ normal (packed_terms new (constant c.args.self.now.time)) =
    c.add.ensures.terms
    ∙ ap (λ k. normal (c.add_to.new.lc ++ (k, 0) ∷ [])) product
    ∙ ap (λ x. normal (x ++ time)) c.add_to.ensures.terms
    ∙ normal-front new time in
    ap₂ (λ x y. record { first = x; second = y }) c.add_above.ensures.terms second
