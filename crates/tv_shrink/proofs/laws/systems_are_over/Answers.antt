use Rattle.tv_shrink.proofs.Whole.{systems_are_over}
use Rattle.tv_shrink.proofs.laws.systems_are_over.Goals as goal

pub returns : goal.returns
returns c = systems_are_over
