use Rattle.tv_core.proofs.Common.{◌∙◌}
use Rattle.tv_inputs.proofs.UpperLaws.{upper_terms}
use Rattle.tv_inputs.proofs.operand.plus_upper.Goals as goal

pub returns-clause-terms : goal.returns-clause-terms
returns-clause-terms c =
    let p = rw (c.plus.ensures.terms, c.neg.ensures, c.mul-coefficient.ensures, c.power_inverse.ensures) at c.plus_to.ensures.terms in
    p ∙ upper_terms c.args.lc.now c.args.factor c.args.a.now c.args.k
