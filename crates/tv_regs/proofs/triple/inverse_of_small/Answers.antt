use Rattle.tv_core.proofs.Common.{◌∙◌}
use Rattle.tv_regs.proofs.Inverses.{small_inverse}
use Rattle.tv_regs.proofs.triple.inverse_of_small.Goals as goal

pub returns : goal.returns
returns c = c.of.ensures ∙ small_inverse c.args.k c.requires.positive c.requires.within
