use Rattle.tv_core.proofs.Common.{◌≡◌, ◌+◌, ◌-◌, ◌<◌, ◌++◌, arith, rules}
use Rattle.tv_r1cs_read.proofs.Failures.{fewer, over_more}
use Rattle.tv_r1cs_read.proofs.StepLemmas.{one_tried}
use Rattle.tv_r1cs_read.proofs.progress.Progress.try_rows.Goals as goal

pub loop-holds-preserved : goal.loop-holds-preserved
loop-holds-preserved g c =
    let some : 0 < c.loop-holds.left = omega (arith, c.if-left-gt0.true) in
    let left : c.loop-holds.left - 1 + 1 ≡ c.loop-holds.left = omega (arith, some) in
    let wires = rw (← c.self.view_is) at c.bounds-bounds.ensures.wires in
    let end = rw (← c.self.view_is) at c.bounds-bounds.ensures.end in
    record {
      held = record {
        before = c.in-Some.ensures.within;
        within = c.loop-holds.invariant.held.within;
        short = omega (arith, c.in-Some.ensures.after, c.loop-holds.invariant.held.short);
        holds = search rules;
      };
      within = search rules;
      fewer = fewer _ _ _ (search rules);
      place = λ file rows start.
          let over = rw c.loop-holds-test.true at (c.loop-holds.invariant.place file rows start) in
          let on = over.place.follows in
          let tried = c.in-Some.ensures.gives file on.piece in
          over_more _ _ _ _ file rows tried.constraint _ over
          (one_tried c.self.inside.header c.self.inside.window c.self.inside.window c.loop-holds.held.from c.loop-holds.left c.self.inside.stopped on.on
          c.loop-holds.invariant.within some c.bounds-bounds.result wires end c.args.values.now file (rows ++ over.more) _ _
          over.place on.piece tried) tried.is left;
    }
