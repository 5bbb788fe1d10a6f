use Rattle.tv_core.proofs.Common.{◌-◌, ◌%◌, ◌∙◌, ap, arith}
use Rattle.tv_core.specs.declared.field.TheConstants.{P}
use Rattle.tv_regs.proofs.Inverses.{negated_inverse, inverse_itself}
use Rattle.tv_regs.proofs.triple.inverse_difference.Goals as goal

pub returns-then-a-b-2 : goal.returns-then-a-b-2
returns-then-a-b-2 c = c.neg.ensures ∙ ap (λ n. (P - n) % P) c.inverse_of_small-then-a-b-2.ensures
    ∙ negated_inverse c.args.a c.args.b (omega arith) c.requires.second

pub returns-else-a-b-2 : goal.returns-else-a-b-2
returns-else-a-b-2 c = inverse_itself c.args.a c.args.b (omega arith) (omega arith)
