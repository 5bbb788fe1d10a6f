use Rattle.tv_core.proofs.Common.{◌≡◌, ◌+◌, ◌∙◌, ap₂, arith}
use Rattle.tv_network.proofs.CostLaws.{stages_terms-zero, stages_terms-more}
use Rattle.tv_network.specs.Costs.{stages_terms}
use Rattle.tv_stages.specs.Stages.{stage_count}
use Rattle.tv_network.proofs.costs.stages_terms.Goals as goal

pub loop-l-init : goal.loop-l-init
loop-l-init g c =
    record { is = stages_terms-zero c.args.levels.now.network c.args.levels.now.first (g.I.Inputs.pair c.args.items.now); few = omega arith }

pub loop-l-preserved : goal.loop-l-preserved
loop-l-preserved g c =
    let s = c.args.levels.now in
    record {
      is = ap₂ (λ a b. a + b) c.loop-l.invariant.is c.stage_terms-terms.ensures.is
          ∙ stages_terms-more s.network s.first (g.I.Inputs.pair c.args.items.now) c.loop-l.l;
      few = omega (arith, c.loop-l.invariant.few, c.stage_terms-terms.ensures.few);
    }

pub returns-clause-is : goal.returns-clause-is
unfolding stages_terms
returns-clause-is g c =
    let all : c.loop-l.l ≡ stage_count c.args.levels.now.network.items = omega (arith, c.loop-l-test.false, c.stages-l-end.ensures.is) in
    rw all at c.loop-l.invariant.is
