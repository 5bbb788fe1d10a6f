use Rattle.tv_core.proofs.Common.{then_in}
use Rattle.tv_shift.specs.Masks.{masked_pair_of}
use Rattle.tv_shift.proofs.masks.pair.Goals as goal

pub returns-in-Low : goal.returns-in-Low
unfolding masked_pair_of
returns-in-Low g c = record {
  emits =
      let both = rw (
        c.terms.ensures.terms,
        c.set_mask.ensures.terms,
        c.chosen_bit.ensures.terms,
        c.terms-in-Low.ensures.terms,
        c.set_mask-2.ensures.terms,
        c.chosen_bit-in-Low.ensures.terms,
        c.root_of_weight-weight.ensures,
        c.in-Low.is,
      ) at c.two_ands.ensures.emits in
      rw c.in-Low.is (then_in _ _ _ _ _ c.fresh.ensures.emits both);
}

pub returns-in-High : goal.returns-in-High
unfolding masked_pair_of
returns-in-High g c = record {
  emits =
      let both = rw (
        c.terms-in-High.ensures.terms,
        c.set_mask.ensures.terms,
        c.other_bit.ensures.terms,
        c.terms-in-High-2.ensures.terms,
        c.set_mask-2.ensures.terms,
        c.other_bit-in-High.ensures.terms,
        c.root_of_weight-weight.ensures,
        c.in-High.is,
      ) at c.two_ands-in-High.ensures.emits in
      rw c.in-High.is (then_in _ _ _ _ _ c.fresh.ensures.emits both);
}
