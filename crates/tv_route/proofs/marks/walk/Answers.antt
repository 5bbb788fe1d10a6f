use Rattle.tv_core.proofs.Common.{◌≡◌, suc, ◌-◌, ◌+◌, ◌*◌, ◌<◌, sym, ◌∙◌, subst, arith, slice_index}
use Rattle.tv_route.proofs.PairLaws.{other_below}
use Rattle.tv_route.proofs.Steps.{walk_none, walk_round, walk_on}
use Rattle.tv_route.proofs.marks.walk.Goals as goal

pub returns-then-x-start : goal.returns-then-x-start
returns-then-x-start c =
    sym (walk_round c.args.partner.now (c.args.n - c.loop-step._step) c.args.start c.loop-step.x c.loop-step.marks (omega arith)
    (sym c.other-x.ensures ∙ c.if-x-start.true)) ∙ c.loop-step.invariant.rest

pub loop-step-preserved : goal.loop-step-preserved
loop-step-preserved c =
    let y = slice_index c.args.partner.now c.loop-step.x in
    let more : c.args.n - c.loop-step._step ≡ suc (c.args.n - (c.loop-step._step + 1)) = omega arith in
    record {
      within = subst (λ k. k < 2 * c.args.n) (sym c.other-x.ensures) (other_below c.args.n y (c.requires.within c.loop-step.x c.loop-step.invariant.within));
      rest = rw c.other-x.ensures (sym (walk_on c.args.partner.now (c.args.n - c.loop-step._step)
          (c.args.n - (c.loop-step._step + 1)) c.args.start c.loop-step.x c.loop-step.marks more (λ e. c.if-x-start.false (c.other-x.ensures ∙ e)))
          ∙ c.loop-step.invariant.rest);
    }

pub returns : goal.returns
returns c = sym (walk_none c.args.partner.now (c.args.n - c.loop-step._step) c.args.start c.loop-step.x c.loop-step.marks (omega arith))
    ∙ c.loop-step.invariant.rest
