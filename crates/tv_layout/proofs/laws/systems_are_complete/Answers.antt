use Rattle.tv_layout.proofs.Systems.{system_complete}
use Rattle.tv_layout.proofs.laws.systems_are_complete.Goals as goal

pub returns : goal.returns
returns c = system_complete
