use Rattle.tv_core.proofs.Common.{◌≡◌, false, joined_below, GivesAll}
use Rattle.tv_network.specs.Filling.{pair_at}
use Rattle.tv_network.specs.Network.{kept_values, loose_slot}
use Rattle.tv_network.proofs.filling.fill_loose.Given as goal

abbrev pub invariant-loop-j : goal.invariant-loop-j
invariant-loop-j g k = record {
  gives : GivesAll g.V.Values.giving k.initial.v k.v (joined_below k.j (λ j. kept_values (pair_at k.items (loose_slot k.network j))));
  whole : g.V.Values.giving.broken k.v ≡ false;
}
