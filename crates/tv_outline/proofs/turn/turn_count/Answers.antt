use Rattle.tv_core.proofs.Common.{◌*◌, ◌+◌, ◌∙◌, ap, arith, drop}
use Rattle.tv_outline.proofs.TurnLaws.{product_over, turn_count_none, turn_count_step}
use Rattle.tv_outline.specs.Expansion.{turn_count}
use Rattle.tv_outline.proofs.turn.turn_count.Goals as goal

pub returns-in-None-clause-few : goal.returns-in-None-clause-few
returns-in-None-clause-few c few =
    let step = turn_count_step c.args.counts.now c.loop-count.count-index c.loop-count.turns c.loop-count-test.true c.loop-count.invariant.is in
    product_over _ _ (omega (arith, c.in-None.ensures)) (omega (arith, step)) ∙ step

pub loop-count-preserved : goal.loop-count-preserved
loop-count-preserved c =
    let step = turn_count_step c.args.counts.now c.loop-count.count-index c.loop-count.turns c.loop-count-test.true c.loop-count.invariant.is in
    record {
      is = ap (λ n. n * turn_count (drop (c.loop-count.count-index + 1) c.args.counts.now)) c.in-Some.ensures.1 ∙ step;
      few = omega (arith, c.in-Some.ensures.0, c.in-Some.ensures.1);
    }

pub returns-clause-few : goal.returns-clause-few
returns-clause-few c few =
    omega (arith, ap (λ n. c.loop-count.turns * n) (turn_count_none c.args.counts.now c.loop-count.count-index c.loop-count-test.false))

pub returns-clause-many : goal.returns-clause-many
returns-clause-many c many =
    absurd (omega (arith, ap (λ n. c.loop-count.turns * n) (turn_count_none c.args.counts.now c.loop-count.count-index c.loop-count-test.false)))
