use Rattle.tv_core.proofs.Common.{arith}
use Rattle.tv_results.proofs.pc.set_jump.Goals as goal

pub returns-clause-top : goal.returns-clause-top
returns-clause-top g c = omega (arith, c.plus.ensures.top, c.plus_upper.ensures.top, c.set_terms.ensures.top)
