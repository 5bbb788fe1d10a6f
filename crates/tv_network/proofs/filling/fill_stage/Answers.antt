use Rattle.tv_core.proofs.Common.{◌≡◌, ℕ, Bool, ◌+◌, ◌<◌, sym, ◌∙◌, ap, ap₂, arith, length, gives_refused}
use Rattle.tv_core.proofs.JoinedLaws.{gives_no_list, gives_list, gives_list_refused}
use Rattle.tv_core.specs.declared.lines.PairNum.{PairNum}
use Rattle.tv_network.proofs.Filled.{all_as, some_as, values_as, exchanged_length, part_none, part_all, bit_there, lower_before, upper_before, part_more}
use Rattle.tv_network.proofs.StagesComplete.{values_at}
use Rattle.tv_network.specs.Filling.{pair_at, exchanged}
use Rattle.tv_network.specs.Stages.{switches_in, lower_slot, upper_slot, stage_values}
use Rattle.tv_stages.proofs.Numbers.{switches_numbered}
use Rattle.tv_stages.specs.Stages.{bit_in}
use Rattle.tv_network.proofs.filling.fill_stage.Goals as goal

pub loop-at-init : goal.loop-at-init
loop-at-init g c =
    let n = c.args.network in
    let l = c.args.l in
    let bit = bit_in n.net n.items c.args.bits.now in
    let v = pair_at c.args.items.now in
    record {
      gives = gives_no_list g.V.Values.giving (values_at n l (bit l) v) _;
      whole = c.requires.whole;
      long = c.requires.items;
      moved = λ z h. sym (part_none n.net n.items l bit v z);
    }

pub returns-in_err-fill_at-clause-gives : goal.returns-in_err-fill_at-clause-gives
unfolding stage_values
returns-in_err-fill_at-clause-gives g c =
    let n = c.args.network in
    let l = c.args.l in
    let bit : ℕ → ℕ → Bool = bit_in n.net n.items c.args.bits.now in
    let v : ℕ → PairNum = pair_at c.args.items.now in
    let at = c.loop-at.at in
    let inv = c.loop-at.invariant in
    let count = rw (c.stage-stage.ensures.net, c.stage-stage.ensures.slots, c.stage-stage.ensures.number) at c.switches-at-end.ensures.is in
    let few : at < switches_in n l = omega (arith, c.loop-at-test.true, count) in
    let slot = switches_numbered.switch n.net n.items l at c.requires.within few in
    let lower = rw (c.stage-stage.ensures.net, c.stage-stage.ensures.slots, c.stage-stage.ensures.number) at c.slot-x.ensures.is in
    let stride = rw (c.stage-stage.ensures.slots, c.stage-stage.ensures.number) at c.stride.ensures.is in
    let upper : c.slot-x.result + c.stride.result ≡ upper_slot n l at = ap₂ (λ a b. a + b) lower stride in
    let b = c.bit.ensures ∙ bit_there n.net n.items l bit v c.requires.within at few c.args.bits.now c.args.from c.requires.from in
    let x : pair_at c.loop-at.items c.slot-x.result ≡ v (lower_slot n l at) = ap (pair_at c.loop-at.items) lower
    ∙ inv.moved (lower_slot n l at) (omega (arith, slot.upper)) ∙ lower_before n.net n.items l bit v c.requires.within at few in
    let y : pair_at c.loop-at.items (c.slot-x.result + c.stride.result) ≡ v (upper_slot n l at) = ap (pair_at c.loop-at.items) upper
    ∙ inv.moved (upper_slot n l at) slot.upper ∙ upper_before n.net n.items l bit v c.requires.within at few in
    let same = values_as _ _ _ _ _ _ _ _ c.form-form.ensures b x y in
    gives_refused _ _ _ _ _ c.from_residual.ensures.1
    (gives_list_refused g.V.Values.giving (values_at n l (bit l) v) (switches_in n l) at _ _ _ _ few inv.gives (some_as same c.in_err-fill_at.ensures.gives))

pub loop-at-preserved : goal.loop-at-preserved
loop-at-preserved g c =
    let n = c.args.network in
    let l = c.args.l in
    let bit : ℕ → ℕ → Bool = bit_in n.net n.items c.args.bits.now in
    let v : ℕ → PairNum = pair_at c.args.items.now in
    let at = c.loop-at.at in
    let inv = c.loop-at.invariant in
    let count = rw (c.stage-stage.ensures.net, c.stage-stage.ensures.slots, c.stage-stage.ensures.number) at c.switches-at-end.ensures.is in
    let few : at < switches_in n l = omega (arith, c.loop-at-test.true, count) in
    let slot = switches_numbered.switch n.net n.items l at c.requires.within few in
    let lower = rw (c.stage-stage.ensures.net, c.stage-stage.ensures.slots, c.stage-stage.ensures.number) at c.slot-x.ensures.is in
    let stride = rw (c.stage-stage.ensures.slots, c.stage-stage.ensures.number) at c.stride.ensures.is in
    let upper : c.slot-x.result + c.stride.result ≡ upper_slot n l at = ap₂ (λ a b. a + b) lower stride in
    let b = c.bit.ensures ∙ bit_there n.net n.items l bit v c.requires.within at few c.args.bits.now c.args.from c.requires.from in
    let x : pair_at c.loop-at.items c.slot-x.result ≡ v (lower_slot n l at) = ap (pair_at c.loop-at.items) lower
    ∙ inv.moved (lower_slot n l at) (omega (arith, slot.upper)) ∙ lower_before n.net n.items l bit v c.requires.within at few in
    let y : pair_at c.loop-at.items (c.slot-x.result + c.stride.result) ≡ v (upper_slot n l at) = ap (pair_at c.loop-at.items) upper
    ∙ inv.moved (upper_slot n l at) slot.upper ∙ upper_before n.net n.items l bit v c.requires.within at few in
    let same = values_as _ _ _ _ _ _ _ _ c.form-form.ensures b x y in
    let moved = c.in_ok-fill_at.ensures.moved in
    record {
      gives = gives_list g.V.Values.giving (values_at n l (bit l) v) at _ _ _ inv.gives (all_as same c.in_ok-fill_at.ensures.gives);
      whole = c.in_ok-fill_at.ensures.whole;
      long = ap length moved ∙ exchanged_length _ _ _ c.loop-at.items ∙ inv.long;
      moved = λ z h.
          ap (λ xs. pair_at xs z) (moved ∙ ap₂ (λ p q. exchanged c.bit.result p q c.loop-at.items) lower upper)
          ∙ part_more n.net n.items l bit v c.requires.within at few c.bit.result c.loop-at.items b inv.long inv.moved z h;
    }

pub returns-clause-gives : goal.returns-clause-gives
unfolding stage_values
returns-clause-gives g c =
    let n = c.args.network in
    let count = rw (c.stage-stage.ensures.net, c.stage-stage.ensures.slots, c.stage-stage.ensures.number) at c.switches-at-end.ensures.is in
    let all : c.loop-at.at ≡ switches_in n c.args.l = omega (arith, c.loop-at-test.false, count) in
    rw all at c.loop-at.invariant.gives

pub returns-clause-moved : goal.returns-clause-moved
returns-clause-moved g c =
    let n = c.args.network in
    let bit : ℕ → ℕ → Bool = bit_in n.net n.items c.args.bits.now in
    let v : ℕ → PairNum = pair_at c.args.items.now in
    let count = rw (c.stage-stage.ensures.net, c.stage-stage.ensures.slots, c.stage-stage.ensures.number) at c.switches-at-end.ensures.is in
    let all : c.loop-at.at ≡ switches_in n c.args.l = omega (arith, c.loop-at-test.false, count) in
    let moved = rw all at c.loop-at.invariant.moved in
    λ z h. moved z h ∙ part_all n.net n.items c.args.l bit v z c.requires.within
