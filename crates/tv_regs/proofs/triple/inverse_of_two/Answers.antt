use Rattle.tv_core.proofs.Common.{◌*◌, ◌%◌, ◌∙◌, ap₂}
use Rattle.tv_core.specs.declared.field.TheConstants.{P}
use Rattle.tv_regs.proofs.Inverses.{inverse_product}
use Rattle.tv_regs.specs.Triple.{minus}
use Rattle.tv_regs.proofs.triple.inverse_of_two.Goals as goal

pub returns : goal.returns
returns c =
    c.mul.ensures ∙ ap₂ (λ x y. x * y % P) c.inverse_difference.ensures c.inverse_difference-2.ensures
    ∙ inverse_product (minus c.args.n c.args.o) (minus c.args.n c.args.b)
