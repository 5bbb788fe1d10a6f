use Rattle.tv_core.proofs.Common.{None, subst, sym}
use Rattle.tv_shrink.specs.Tidy.{RowIsNormal}
use Rattle.tv_shrink.proofs.Elements.{each_at}
use Rattle.tv_shrink.proofs.state.State.get.Goals as goal

pub returns-clause-normal : goal.returns-clause-normal
returns-clause-normal c = subst RowIsNormal (sym c.get.ensures) (each_at RowIsNormal c.self.inside.rows c.args.at None tt c.self.invariant.normal)
