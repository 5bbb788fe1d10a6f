use Rattle.tv_layout.proofs.SystemSizes.{system_sized}
use Rattle.tv_layout.proofs.laws.systems_are_sized.Goals as goal

pub returns : goal.returns
returns c = system_sized
