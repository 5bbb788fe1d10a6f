use Rattle.tv_core.proofs.Common.{◌≡◌, ℕ, ◌*◌, ◌^◌, ◌<◌, ◌≤◌, false, length, joined_below, GivesAll}
use Rattle.tv_network.proofs.StagesComplete.{stage_at}
use Rattle.tv_network.specs.Filling.{pair_at}
use Rattle.tv_stages.specs.Stages.{bit_in, first_switch, through_first}
use Rattle.tv_network.proofs.filling.fill_stages.Given as goal

abbrev pub invariant-loop-l : goal.invariant-loop-l
invariant-loop-l g k =
    let n = k.network in
    let bit = bit_in n.net n.items k.bits in
    let v = pair_at k.initial.items in
    record {
      gives : GivesAll g.V.Values.giving k.initial.v k.v (joined_below k.l (stage_at n bit v));
      whole : g.V.Values.giving.broken k.v ≡ false;
      from : k.from ≡ first_switch n.net n.items k.l;
      few : k.from ≤ k.l * 2 ^ 25;
      long : length k.items ≡ n.items;
      moved : (z : ℕ) → z < n.items → pair_at k.items z ≡ through_first n.net n.items bit k.l v z;
    }
