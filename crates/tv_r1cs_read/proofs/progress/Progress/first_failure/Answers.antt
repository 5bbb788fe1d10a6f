use Rattle.tv_core.proofs.Common.{[], ◌+◌, ◌++◌, ◌∙◌, append_assoc, append-nil, false, length, arith, refl, rules}
use Rattle.std.proofs.Common.{length-append}
use Rattle.std.proofs.lemmas.Option.{MatchOption-at_none}
use Rattle.tv_r1cs_read.proofs.Done.{is_on}
use Rattle.tv_r1cs_read.proofs.Failures.{after_all, failed, none_failed}
use Rattle.tv_r1cs_read.proofs.progress.Progress.first_failure.Goals as goal

pub loop-self-init : goal.loop-self-init
loop-self-init g c = record {
  outside = refl;
  header = refl;
  on = search rules;
  fewer = search (rules, arith);
  place = λ rows file known start. ([], rw append-nil start, search (rules, arith), refl);
}

pub returns-then-not-branch-clause-steps : goal.returns-then-not-branch-clause-steps
returns-then-not-branch-clause-steps g c =
    let tried = c.in_ok-try_some.ensures in
    let looked = MatchOption-at_none _ _ tried.goes (tried.steps.looks c.loop-self.invariant.on) in
    record {
      header = tried.steps.header ∙ c.loop-self.invariant.header;
      again = search rules;
      looks = λ on. rw tried.goes (looked ∙ c.loop-self.invariant.outside);
      gives = λ rows file known start.
          let before = c.loop-self.invariant.place rows file known start in
          let seen = rw (← c.loop-self.invariant.outside) at known in
          let over = rw c.if-not-branch.true at (MatchOption-at_none _ _ tried.goes (tried.steps.gives (rows ++ before.0) file seen before.1)) in
          is_on file _ tried.goes (failed c.args.values.now _ _ file rows before.0 _ _ before.3 over before.2 (search (rules, arith)));
    }

pub loop-self-preserved : goal.loop-self-preserved
loop-self-preserved g c =
    let tried = c.in_ok-try_some.ensures in
    record {
      outside = MatchOption-at_none _ _ tried.goes (tried.steps.looks c.loop-self.invariant.on) ∙ c.loop-self.invariant.outside;
      header = tried.steps.header ∙ c.loop-self.invariant.header;
      on = tried.goes;
      fewer = omega (arith, tried.left, c.loop-self.invariant.fewer);
      place = λ rows file known start.
          let before = c.loop-self.invariant.place rows file known start in
          let seen = rw (← c.loop-self.invariant.outside) at known in
          let over = rw c.if-not-branch.false at (MatchOption-at_none _ _ tried.goes (tried.steps.gives (rows ++ before.0) file seen before.1)) in (
            before.0 ++ over.more,
            rw (← append_assoc rows before.0 over.more) over.place,
            omega (arith, before.2, over.count, length-append before.0 over.more),
            after_all c.args.values.now 0 before.0 over.more before.3 ∙ over.is (0 + length before.0),
          );
    }

pub returns-clause-steps : goal.returns-clause-steps
returns-clause-steps g c =
    let ended = c.end.ensures.steps false (g.D.Files.seen c.args.files.now) c.args.name.now in
    record {
      header = ended.header ∙ c.loop-self.invariant.header;
      again = search rules;
      looks = λ on. rw c.loop-self.invariant.outside (ended.looks c.loop-self.invariant.on);
      gives = λ rows file known start.
          let before = c.loop-self.invariant.place rows file known start in
          none_failed c.args.values.now _ file rows before.0 before.3 (ended.gives (rows ++ before.0) file known before.1);
    }
