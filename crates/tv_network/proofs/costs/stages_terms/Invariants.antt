use Rattle.tv_core.proofs.Common.{◌≡◌, ◌*◌, ◌^◌, ◌≤◌}
use Rattle.tv_core.specs.Below.{sum_below}
use Rattle.tv_network.specs.Costs.{stage_terms}
use Rattle.tv_network.specs.Stages.{item_at}
use Rattle.tv_network.proofs.costs.stages_terms.Given as goal

abbrev pub invariant-loop-l : goal.invariant-loop-l
invariant-loop-l g k =
    let n = k.levels.network in
    record {
      is : k.terms ≡ sum_below k.l (λ l. stage_terms n l (item_at n k.levels.first (g.I.Inputs.pair k.items) l));
      few : k.terms ≤ k.l * (2 ^ 25 * 655);
    }
