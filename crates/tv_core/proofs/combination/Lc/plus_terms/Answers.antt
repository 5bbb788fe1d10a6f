use Rattle.std.proofs.Common.{◌≡◌, ◌++◌, ◌∙◌, ap, length, length-append}
use Rattle.std.proofs.lemmas.List.{take_all}
use Rattle.tv_core.proofs.CombinationLaws.{appended_term, top-append}
use Rattle.tv_core.specs.Combinations.{top}
use Rattle.tv_core.proofs.combination.Lc.plus_terms.Goals as goal

pub loop-coefficient-preserved : goal.loop-coefficient-preserved
loop-coefficient-preserved c =
    appended_term c.args.terms.now c.loop-coefficient.coefficient-index c.loop-coefficient-item.result c.loop-coefficient-test.true
    c.loop-coefficient-item.is c.args.self.now c.loop-coefficient.self c.plus.new.self c.loop-coefficient.invariant c.plus.ensures.terms

pub returns : goal.returns
returns c =
    let x = c.args.self.now in
    let terms = c.args.terms.now in
    let is : c.loop-coefficient.self ≡ x ++ terms =
    c.loop-coefficient.invariant ∙ ap (λ y. x ++ y) (take_all c.loop-coefficient.coefficient-index terms c.loop-coefficient-test.false) in
    record { terms = is; len = ap length is ∙ length-append x terms; top = ap top is ∙ top-append x terms }
