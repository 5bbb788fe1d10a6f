use Rattle.tv_core.proofs.Common.{◌≡◌, ◌*◌, ◌≤◌}
use Rattle.tv_core.specs.Below.{sum_below}
use Rattle.tv_network.specs.Network.{kept_terms, loose_slot}
use Rattle.tv_network.specs.Stages.{output_at}
use Rattle.tv_network.proofs.costs.loose_terms.Given as goal

abbrev pub invariant-loop-j : goal.invariant-loop-j
invariant-loop-j g k =
    let n = k.levels.network in
    record {
      is : k.terms ≡ sum_below k.j (λ j. kept_terms (output_at n k.levels.first (g.I.Inputs.pair k.items) (loose_slot n j)));
      few : k.terms ≤ k.j * 260;
    }
