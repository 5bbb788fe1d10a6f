use Rattle.tv_core.proofs.Common.{ℕ, ◌∙◌, ap, gives_refused, first_given, in_given}
use Rattle.tv_core.specs.declared.lines.PairNum.{PairNum}
use Rattle.tv_network.proofs.Filled.{joined_same}
use Rattle.tv_network.proofs.LastStage.{loose_within}
use Rattle.tv_network.specs.Filling.{pair_at}
use Rattle.tv_network.specs.Network.{kept_values, loose_count, loose_slot, network_values}
use Rattle.tv_stages.proofs.Reorders.{places-at}
use Rattle.tv_stages.specs.Stages.{bit_in, through_stages}
use Rattle.tv_network.proofs.filling.fill_network.Goals as goal

pub returns-in_err-fill_stages-clause-gives : goal.returns-in_err-fill_stages-clause-gives
unfolding network_values
returns-in_err-fill_stages-clause-gives g c = gives_refused _ _ _ _ _ c.from_residual.ensures.1 (first_given _ c.in_err-fill_stages.ensures.gives)

pub returns-clause-gives : goal.returns-clause-gives
unfolding network_values
returns-clause-gives g c =
    let n = c.args.network in
    let out : ℕ → PairNum = through_stages n.net n.items (bit_in n.net n.items c.args.bits.now) (pair_at c.args.items.now) in
    let moved = c.in_ok-fill_stages.ensures.moved in
    let same = joined_same (loose_count n) (λ j. kept_values (pair_at c.fill_stages.new.items (loose_slot n j))) (λ j. kept_values (out (loose_slot n j)))
    (λ j h. ap kept_values (ap (λ xs. pair_at xs (loose_slot n j)) moved ∙ places-at n.items (loose_slot n j) out _ (loose_within n j h))) in
    in_given _ _ _ c.in_ok-fill_stages.ensures.gives (rw same at c.fill_loose.ensures.gives)
