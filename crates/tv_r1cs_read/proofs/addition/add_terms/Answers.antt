use Rattle.tv_core.proofs.Common.{arith}
use Rattle.tv_r1cs_read.proofs.Sums.{adds_more, adds_none}
use Rattle.tv_r1cs_read.proofs.addition.add_terms.Goals as goal

pub loop-good-init : goal.loop-good-init
loop-good-init g c = record { place = omega arith; small = omega arith; adds = adds_none _ _ _ _ _ }

pub loop-good-preserved : goal.loop-good-preserved
loop-good-preserved g c = record {
  place = omega (arith, c.loop-good.invariant.place);
  small = omega (arith, c.loop-good.invariant.small, c.add_term.ensures.small);
  adds = adds_more _ c.args.bounds.now c.args.values.now _ _ _ _ _ _ c.loop-good.invariant.adds c.loop-good.invariant.place
      (rw c.if-not-add_term.false at c.add_term.ensures.adds);
}
