use Rattle.tv_core.proofs.Common.{refl}
use Rattle.tv_shrink.specs.Pass.{dropped}
use Rattle.tv_shrink.proofs.state.State.remove.Goals as goal

pub returns : goal.returns
unfolding dropped
returns c = rw (← c.self.view_is, c.remove.ensures) refl
