use Rattle.tv_core.proofs.Common.{◌≡◌, ℕ, Bool, ◌+◌, ◌<◌, ◌∙◌, ap, ap₂, arith, refl, gives_refused}
use Rattle.tv_core.proofs.JoinedLaws.{gives_no_list, gives_list, gives_list_refused}
use Rattle.tv_core.specs.declared.lines.PairNum.{PairNum}
use Rattle.tv_network.proofs.Filled.{all_as, some_as, stage_values_same, first_none, first_more, through_more, is_places}
use Rattle.tv_network.proofs.StagesComplete.{stage_at}
use Rattle.tv_network.proofs.StageLaws.{stage_same}
use Rattle.tv_network.specs.Filling.{pair_at}
use Rattle.tv_network.specs.Stages.{stages_values}
use Rattle.tv_stages.specs.Stages.{bit_in, stage_count, through_first, through_stages}
use Rattle.tv_network.proofs.filling.fill_stages.Goals as goal

pub loop-l-init : goal.loop-l-init
unfolding through_first
loop-l-init g c =
    let n = c.args.network in
    record {
      gives = gives_no_list g.V.Values.giving (stage_at n (bit_in n.net n.items c.args.bits.now) (pair_at c.args.items.now)) _;
      whole = c.requires.whole;
      from = first_none n.net n.items;
      few = omega arith;
      long = c.requires.items;
      moved = λ z h. refl;
    }

pub returns-in_err-fill_stage-clause-gives : goal.returns-in_err-fill_stage-clause-gives
unfolding stages_values
returns-in_err-fill_stage-clause-gives g c =
    let n = c.args.network in
    let bit = bit_in n.net n.items c.args.bits.now in
    let v = pair_at c.args.items.now in
    let l = c.loop-l.l in
    let within : l < stage_count n.items = omega (arith, c.loop-l-test.true, c.stages-l-end.ensures.is) in
    let same = stage_values_same n l (bit l) (pair_at c.loop-l.items) (through_first n.net n.items bit l v) within c.loop-l.invariant.moved in
    gives_refused _ _ _ _ _ c.from_residual.ensures.1
    (gives_list_refused g.V.Values.giving (stage_at n bit v) (stage_count n.items) l _ _ _ _ within c.loop-l.invariant.gives
    (some_as same c.in_err-fill_stage.ensures.gives))

pub loop-l-preserved : goal.loop-l-preserved
loop-l-preserved g c =
    let n = c.args.network in
    let bit : ℕ → ℕ → Bool = bit_in n.net n.items c.args.bits.now in
    let v : ℕ → PairNum = pair_at c.args.items.now in
    let l = c.loop-l.l in
    let inv = c.loop-l.invariant in
    let within : l < stage_count n.items = omega (arith, c.loop-l-test.true, c.stages-l-end.ensures.is) in
    let same = stage_values_same n l (bit l) (pair_at c.loop-l.items) (through_first n.net n.items bit l v) within inv.moved in
    let made = rw (c.stage.ensures.net, c.stage.ensures.slots, c.stage.ensures.number) at c.switches.ensures.is in
    let few = rw c.stage.ensures.slots at c.switches.ensures.few in
    record {
      gives = gives_list g.V.Values.giving (stage_at n bit v) l _ _ _ inv.gives (all_as same c.in_ok-fill_stage.ensures.gives);
      whole = c.in_ok-fill_stage.ensures.whole;
      from = ap₂ (λ a b. a + b) inv.from made ∙ first_more n.net n.items l;
      few = omega (arith, inv.few, few, c.requires.few);
      long = omega (arith, inv.long, c.fill_stage.auto.items);
      moved = λ z h.
          c.in_ok-fill_stage.ensures.moved z h ∙ stage_same n.net n.items l bit (pair_at c.loop-l.items) (through_first n.net n.items bit l v) inv.moved z h
          ∙ through_more n.net n.items bit l v z;
    }

pub returns-clause-gives : goal.returns-clause-gives
unfolding stages_values
returns-clause-gives g c =
    let all : c.loop-l.l ≡ stage_count c.args.network.items = omega (arith, c.loop-l-test.false, c.stages-l-end.ensures.is) in
    rw all at c.loop-l.invariant.gives

pub returns-clause-moved : goal.returns-clause-moved
unfolding through_stages
returns-clause-moved g c =
    let n = c.args.network in
    let bit = bit_in n.net n.items c.args.bits.now in
    let v = pair_at c.args.items.now in
    let all : c.loop-l.l ≡ stage_count n.items = omega (arith, c.loop-l-test.false, c.stages-l-end.ensures.is) in
    is_places n.items (through_first n.net n.items bit (stage_count n.items) v) c.loop-l.items c.loop-l.invariant.long
    (λ z h. c.loop-l.invariant.moved z h ∙ ap (λ l. through_first n.net n.items bit l v z) all)
