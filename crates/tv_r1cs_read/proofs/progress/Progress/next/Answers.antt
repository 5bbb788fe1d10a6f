use Rattle.tv_core.proofs.Common.{◌≡◌, ◌<◌, ◌∙◌, true, None, sym, arith, rules}
use Rattle.tv_r1cs_read.proofs.StepLemmas.{read_steps, refused_steps}
use Rattle.tv_r1cs_read.proofs.progress.Progress.next.Goals as goal

pub returns-in-Some-stopped-clause-steps : goal.returns-in-Some-stopped-clause-steps
returns-in-Some-stopped-clause-steps g c =
    let ended = c.end.ensures.steps true (g.D.Files.seen c.args.files.now) c.args.name.now in
    let stopped = sym c.stopped.ensures ∙ c.in-Some-stopped.is in
    record {
      header = ended.header;
      again = ended.again;
      looks = ended.looks;
      gives = λ rows file known is. rw stopped (rw stopped at (ended.gives rows file known is));
    }

pub returns-in-None-clause-steps : goal.returns-in-None-clause-steps
returns-in-None-clause-steps g c = c.end.ensures.steps true _ _

pub returns-in-Ok-clause-steps : goal.returns-in-Ok-clause-steps
returns-in-Ok-clause-steps g c =
    let on : c.self.inside.stopped ≡ None = search rules in
    let some : 0 < c.self.inside.left = omega (arith, c.if-self-eq0.false) in
    rw (← c.self.view_is) (read_steps c.self.inside.header _ _ c.self.inside.at c.self.inside.left c.self.inside.stopped on c.self.invariant some
    c.bounds-bounds.result (rw (← c.self.view_is) at c.bounds-bounds.ensures.wires) (rw (← c.self.view_is) at c.bounds-bounds.ensures.end) c.read_row.new.row _
    c.in-Ok.ensures.reads c.in-Ok.ensures.size)

pub returns-in-Err-clause-steps : goal.returns-in-Err-clause-steps
returns-in-Err-clause-steps g c =
    let on : c.self.inside.stopped ≡ None = search rules in
    let some : 0 < c.self.inside.left = omega (arith, c.if-self-eq0.false) in
    rw (← c.self.view_is) (refused_steps c.self.inside.header _ _ c.self.inside.at c.self.inside.left c.self.inside.stopped on c.self.invariant some
    c.bounds-bounds.result (rw (← c.self.view_is) at c.bounds-bounds.ensures.wires) (rw (← c.self.view_is) at c.bounds-bounds.ensures.end)
    c.in-Err.ensures.reads)
