use Rattle.tv_core.proofs.Common.{common_steps, arith, pow-le-pow_right}
use Rattle.tv_muldiv.proofs.numbers.set_signed_number.Goals as goal

pub returns-clause-terms : goal.returns-clause-terms
returns-clause-terms c = grind (arith, common_steps, pow-le-pow_right)
