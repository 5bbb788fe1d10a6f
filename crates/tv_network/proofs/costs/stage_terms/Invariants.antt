use Rattle.tv_core.proofs.Common.{◌≡◌, ◌*◌, ◌≤◌}
use Rattle.tv_core.specs.Below.{sum_below}
use Rattle.tv_network.specs.Costs.{switch_terms}
use Rattle.tv_network.specs.Stages.{form_of, item_at, lower_slot, upper_slot}
use Rattle.tv_network.proofs.costs.stage_terms.Given as goal

abbrev pub invariant-loop-at : goal.invariant-loop-at
invariant-loop-at g k =
    let n = k.levels.network in
    let l = k.fn.l in
    let item = item_at n k.levels.first (g.I.Inputs.pair k.items) l in
    record {
      is : k.terms ≡ sum_below k.at (λ at. switch_terms (form_of n l) (item (lower_slot n l at)) (item (upper_slot n l at)));
      few : k.terms ≤ k.at * 655;
    }
