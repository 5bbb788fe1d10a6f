use Rattle.tv_core.proofs.Common.{common_steps, arith, ◌-◌, scaled}
use Rattle.tv_core.proofs.Unique.{normal-front, normal_swap}
use Rattle.tv_core.specs.declared.field.TheConstants.{P}
use Rattle.tv_bits.proofs.selection.set_terms_less.Goals as goal

pub returns-clause-terms : goal.returns-clause-terms
returns-clause-terms c = grind (arith, common_steps, normal-front, normal_swap (scaled (P - 1) c.args.y.now) c.args.x.now)
