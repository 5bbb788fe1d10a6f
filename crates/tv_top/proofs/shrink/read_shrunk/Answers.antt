use Rattle.tv_core.proofs.Common.{rules}
use Rattle.tv_plan.proofs.ContainerReads.{came_by}
use Rattle.tv_plan.specs.Plan.{named}
use Rattle.tv_top.proofs.ShrunkReads.{finds_shrunk}
use Rattle.tv_top.proofs.shrink.read_shrunk.Goals as goal

pub returns : goal.returns
returns g c =
    finds_shrunk (named c.args.place) _ _ c.shrink.result _ (came_by _ _ _ _ c.map_err.ensures.cases (λ why s is. search rules))
    c.shrink.ensures.gives c.shrink.ensures.looks c.shrink.ensures.missing
