use Rattle.tv_core.proofs.Common.{arith}
use Rattle.tv_benes.proofs.Bounds.{switches_few}
use Rattle.tv_benes.specs.declared.shape.Net.TheVariants.{Benes, Waksman}
use Rattle.tv_benes.proofs.shape.level_switches.Goals as goal

pub returns-in-Benes-clause-few : goal.returns-in-Benes-clause-few
returns-in-Benes-clause-few c = rw (c.from.ensures, c.long_power-half.ensures.is) (omega (arith, switches_few Benes c.args.h c.requires))

pub returns-in-Waksman-clause-few : goal.returns-in-Waksman-clause-few
returns-in-Waksman-clause-few c = rw (c.from-in-Waksman.ensures, c.long_power-half.ensures.is) (omega (arith, switches_few Waksman c.args.h c.requires))
