use Rattle.tv_core.proofs.Common.{◌∙◌, [], sym}
use Rattle.std.proofs.lemmas.Option.{MatchOption-at_none}
use Rattle.tv_check.proofs.Trials.{answers, failed_no, judge-failure, judge-stays, read_holds, read_passes, verdict_of-refuses}
use Rattle.tv_check.proofs.checker.check.Goals.{in-Yes+in-Some, in_default}
use Rattle.tv_check.proofs.checker.check.Goals as goal

pub returns-in-Err-clause-gives : goal.returns-in-Err-clause-gives
returns-in-Err-clause-gives g c = λ file known.
    let refused = c.in-Err.ensures.gives file known in
    verdict_of-refuses file c.args.values.now c.args.publics.now _ refused.1

pub public_verdict-verdict-requires : goal.public_verdict-verdict-requires
public_verdict-verdict-requires g c = rw c.counts.ensures c.in-Ok.ensures.begun.room

pub returns-in-None-clause-gives : goal.returns-in-None-clause-gives
returns-in-None-clause-gives g c = λ file known.
    let begun = rw (← c.in-Ok.ensures.ok_looks, ← c.in-Ok.ensures.name) at known in
    let tried = c.in-None.ensures.steps in
    let first = rw c.counts.ensures at c.public_verdict-verdict.ensures in
    answers _ _ _ file c.args.values.now c.args.publics.now c.ended.ensures
    (read_holds _ file c.args.values.now c.args.publics.now _ c.in-Ok.reader.progress.header _ (tried.gives [] file begun (c.in-Ok.ensures.gives file known))
    tried.header (sym first ∙ c.in-Yes.is) c.in-Yes.is)

pub returns-clause-gives : goal.returns-clause-gives
returns-clause-gives g c = λ file known.
    let begun = rw (← c.in-Ok.ensures.ok_looks, ← c.in-Ok.ensures.name) at known in
    let start = c.in-Ok.ensures.gives file known in
    let header = c.in-Ok.reader.progress.header in
    let z = c.args.values.now in
    let x = c.args.publics.now in
    let first = rw c.counts.ensures at c.public_verdict-verdict.ensures in
    answers _ _ _ file z x c.ended-2.ensures (elim c.match-verdict.branch [
      | in-Yes+in-Some w ↦
          let tried = w.in-Some.ensures in
          let looked = MatchOption-at_none _ _ tried.goes (tried.steps.looks c.in-Ok.ensures.begun.stopped) in
          let failed = MatchOption-at_none _ _ tried.goes (tried.steps.gives [] file begun start) in
          let is = judge-failure header z x failed.0 _ (sym first ∙ w.in-Yes.is) failed.3 in
          let passed = rw w.reader-is at c.pass_rest.ensures.steps in
          read_passes _ file z x _ header failed.0 _ (passed.gives failed.0 file (rw (← looked, ← tried.name) at begun) failed.1)
          (passed.header ∙ tried.steps.header)
          (λ rest. w.verdict-is ∙ sym is ∙ sym (judge-stays header z x failed.0 rest (failed_no is)))
      | in_default w ↦
          let passed = rw w.reader-is at c.pass_rest.ensures.steps in
          read_passes _ file z x _ header [] _ (passed.gives [] file begun start) passed.header
          (λ rest. w.verdict-is ∙ first ∙ sym (judge-stays header z x [] rest (λ same. w.in_default.not-Yes (first ∙ same))))
    ])
