use Rattle.tv_core.proofs.Common.{◌+◌, ap₂}
use Rattle.tv_network.specs.Network.{network_terms}
use Rattle.tv_network.proofs.costs.network_terms.Goals as goal

pub returns-clause-is : goal.returns-clause-is
unfolding network_terms
returns-clause-is g c =
    let stages = rw (c.new-levels.ensures.network, c.new-levels.ensures.first) at c.stages_terms.ensures.is in
    let loose = rw (c.new-levels.ensures.network, c.new-levels.ensures.first) at c.loose_terms.ensures.is in
    ap₂ (λ a b. a + b) stages loose
