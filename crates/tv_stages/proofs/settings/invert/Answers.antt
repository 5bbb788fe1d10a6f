use Rattle.std.proofs.Common.{length, slice_index, ◌∙◌, arith, length-set}
use Rattle.tv_stages.proofs.Indices.{backs_are}
use Rattle.tv_stages.proofs.Narrowing.{invert_more}
use Rattle.tv_stages.proofs.settings.invert.Goals as goal

pub loop-x-init : goal.loop-x-init
loop-x-init c = record { long = c.requires.long; is = λ y h. absurd (omega arith) }

pub bounds-r-q : goal.bounds-r-q
bounds-r-q c = omega (arith, c.requires.permutes.below c.loop-x.x c.loop-x-test.true, c.loop-x.invariant.long)

pub loop-x-preserved : goal.loop-x-preserved
loop-x-preserved c = record {
  long = length-set c.loop-x.r (slice_index c.args.q.now c.loop-x.x) c.loop-x.x ∙ c.loop-x.invariant.long;
  is = invert_more (length c.args.q.now) c.loop-x.x c.args.q.now c.loop-x.r c.requires.permutes c.loop-x.invariant.long c.loop-x-test.true
      c.loop-x.invariant.is;
}

pub returns : goal.returns
returns c = backs_are c.args.q.now c.loop-x.r c.requires.permutes c.loop-x.invariant.long
    (λ x h. c.loop-x.invariant.is x (omega (arith, c.loop-x-test.false, c.loop-x.auto.x-end)))
