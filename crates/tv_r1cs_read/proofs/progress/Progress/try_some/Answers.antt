use Rattle.tv_core.proofs.Common.{◌++◌, ◌∙◌, rules}
use Rattle.std.proofs.lemmas.Option.{MatchOption-at_none}
use Rattle.tv_r1cs_read.proofs.Done.{is_on}
use Rattle.tv_r1cs_read.proofs.Failures.{over_over}
use Rattle.tv_r1cs_read.proofs.progress.Progress.try_some.Goals as goal

pub returns-clause-steps : goal.returns-clause-steps
returns-clause-steps g c =
    let first = c.in_ok-try_far.ensures in
    let looked = MatchOption-at_none _ _ first.goes (first.steps.looks c.requires.on) in
    let later = c.try_window.ensures.steps (g.D.Files.seen c.args.files.now) c.args.name.now in
    record {
      header = later.header ∙ first.steps.header;
      again = search rules;
      looks = λ on. rw c.try_window.ensures.goes looked;
      gives = λ rows file known is.
          let over = rw c.if-not-branch.false at (MatchOption-at_none _ _ first.goes (first.steps.gives rows file known is)) in
          let others = MatchOption-at_none _ _ c.try_window.ensures.goes (later.gives (rows ++ over.more) file known over.place) in
          is_on file _ c.try_window.ensures.goes (over_over _ _ _ _ file rows _ over others);
    }
