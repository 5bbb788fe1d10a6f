use Rattle.tv_layout.proofs.NormalLaws.{system_normal}
use Rattle.tv_layout.proofs.laws.systems_are_normal.Goals as goal

pub returns : goal.returns
returns c = system_normal
