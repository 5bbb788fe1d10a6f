use Rattle.tv_layout.proofs.Systems.{system_reduces}
use Rattle.tv_layout.proofs.laws.systems_reduce.Goals as goal

pub returns : goal.returns
returns c = system_reduces
