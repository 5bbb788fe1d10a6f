use Rattle.tv_core.proofs.Common.{length, ap, ◌∙◌}
use Rattle.tv_fill.specs.Filled.{Filled}
use Rattle.tv_fill.proofs.filling.Filling.count.Goals as goal

pub returns : goal.returns
returns g c = c.self.invariant.counted ∙ ap (λ (f : Filled). length f.values) c.self.view_is
