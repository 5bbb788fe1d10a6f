use Rattle.tv_core.proofs.Common.{◌<◌, ◌∙◌, ap, arith, length, gives_refused}
use Rattle.tv_core.proofs.JoinedLaws.{gives_no_list, gives_list, gives_list_refused}
use Rattle.tv_network.proofs.Filled.{all_as, some_as, read_item}
use Rattle.tv_network.proofs.LastStage.{loose_within}
use Rattle.tv_network.specs.Filling.{pair_at}
use Rattle.tv_network.specs.Network.{kept_values, loose_count, loose_slot}
use Rattle.tv_network.proofs.filling.fill_loose.Goals as goal

pub loop-j-init : goal.loop-j-init
loop-j-init g c = record {
  gives = gives_no_list g.V.Values.giving (λ j. kept_values (pair_at c.args.items.now (loose_slot c.args.network j))) _;
  whole = c.requires.whole;
}

pub returns-in_err-give_values-clause-gives : goal.returns-in_err-give_values-clause-gives
returns-in_err-give_values-clause-gives g c =
    let n = c.args.network in
    let items = c.args.items.now in
    let j = c.loop-j.j in
    let few : j < loose_count n = omega (arith, c.loop-j-test.true, c.loose_count-j-end.ensures) in
    let within : c.loose_slot.result < length items = omega (arith, c.loose_slot.ensures, loose_within n j few, c.requires.items) in
    let read = read_item items c.loose_slot.result c.index-items-loose_slot.result within c.index-items-loose_slot.is in
    let item = read ∙ ap (pair_at items) c.loose_slot.ensures in
    gives_refused _ _ _ _ _ c.from_residual.ensures.1
    (gives_list_refused g.V.Values.giving (λ j. kept_values (pair_at items (loose_slot n j))) (loose_count n) j _ _ _ _ few c.loop-j.invariant.gives
    (some_as (ap kept_values item) c.in_err-give_values.ensures.gives))

pub loop-j-preserved : goal.loop-j-preserved
loop-j-preserved g c =
    let n = c.args.network in
    let items = c.args.items.now in
    let j = c.loop-j.j in
    let few : j < loose_count n = omega (arith, c.loop-j-test.true, c.loose_count-j-end.ensures) in
    let within : c.loose_slot.result < length items = omega (arith, c.loose_slot.ensures, loose_within n j few, c.requires.items) in
    let read = read_item items c.loose_slot.result c.index-items-loose_slot.result within c.index-items-loose_slot.is in
    let item = read ∙ ap (pair_at items) c.loose_slot.ensures in
    record {
      gives = gives_list g.V.Values.giving (λ j. kept_values (pair_at items (loose_slot n j))) j _ _ _ c.loop-j.invariant.gives
          (all_as (ap kept_values item) c.in_ok-give_values.ensures.gives);
      whole = c.in_ok-give_values.ensures.whole;
    }
