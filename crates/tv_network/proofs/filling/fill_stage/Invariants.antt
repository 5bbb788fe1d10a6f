use Rattle.tv_core.proofs.Common.{◌≡◌, ℕ, ◌<◌, false, length, joined_below, GivesAll}
use Rattle.tv_network.proofs.Filled.{part}
use Rattle.tv_network.proofs.StagesComplete.{values_at}
use Rattle.tv_network.specs.Filling.{pair_at}
use Rattle.tv_stages.specs.Stages.{bit_in}
use Rattle.tv_network.proofs.filling.fill_stage.Given as goal

abbrev pub invariant-loop-at : goal.invariant-loop-at
invariant-loop-at g k =
    let n = k.fn.network in
    let bit = bit_in n.net n.items k.bits in
    let v = pair_at k.initial.items in
    record {
      gives : GivesAll g.V.Values.giving k.initial.v k.v (joined_below k.at (values_at n k.l (bit k.l) v));
      whole : g.V.Values.giving.broken k.v ≡ false;
      long : length k.items ≡ n.items;
      moved : (z : ℕ) → z < n.items → pair_at k.items z ≡ part n.net n.items k.l bit v k.at z;
    }
