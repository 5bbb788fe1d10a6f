use Rattle.tv_core.proofs.Common.{◌<◌}
use Rattle.tv_r1cs_read.proofs.StepLemmas.{refused_steps, tried_steps}
use Rattle.tv_r1cs_read.proofs.progress.Progress.try_far.Goals as goal

pub returns-in-Ok-clause-steps : goal.returns-in-Ok-clause-steps
returns-in-Ok-clause-steps g c =
    let some : 0 < c.self.inside.left = rw (← c.self.view_is) at c.requires.some in
    rw (← c.self.view_is) (tried_steps c.self.inside.header _ _ c.self.inside.at c.self.inside.left c.self.inside.stopped
    (rw (← c.self.view_is) at c.requires.on) c.self.invariant some c.bounds-bounds.result (rw (← c.self.view_is) at c.bounds-bounds.ensures.wires)
    (rw (← c.self.view_is) at c.bounds-bounds.ensures.end) c.args.values.now _ _ c.in-Ok.ensures.reads)

pub returns-in-Err-clause-steps : goal.returns-in-Err-clause-steps
returns-in-Err-clause-steps g c =
    let some : 0 < c.self.inside.left = rw (← c.self.view_is) at c.requires.some in
    rw (← c.self.view_is) (refused_steps c.self.inside.header _ _ c.self.inside.at c.self.inside.left c.self.inside.stopped
    (rw (← c.self.view_is) at c.requires.on) c.self.invariant some c.bounds-bounds.result (rw (← c.self.view_is) at c.bounds-bounds.ensures.wires)
    (rw (← c.self.view_is) at c.bounds-bounds.ensures.end) c.in-Err.ensures.reads)
