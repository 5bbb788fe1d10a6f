use Rattle.tv_core.proofs.Common.{arith, common_steps}
use Rattle.tv_core.specs.Below.{weighted}
use Rattle.tv_regs.proofs.triple.number_terms.Goals as goal

pub returns-clause-terms : goal.returns-clause-terms
unfolding weighted
returns-clause-terms c =
    rw (c.of.ensures, c.of-2.ensures, c.of-3.ensures, c.offset.ensures, c.offset-2.ensures, c.offset-3.ensures, c.requires.short) (grind (arith, common_steps))
