use Rattle.tv_core.proofs.Common.{◌≡◌, ◌+◌, arith, refl, rules}
use Rattle.tv_container.proofs.Chain.{refuses_wrong, stopped_bad}
use Rattle.tv_r1cs_read.proofs.Constraints.{constraints_from-end, constraints_from-surplus}
use Rattle.tv_r1cs_read.proofs.Done.{all_at, is_on, refuses_ahead}
use Rattle.tv_r1cs_read.proofs.progress.Progress.end.Goals as goal

pub returns-then-self-rows-clause-steps : goal.returns-then-self-rows-clause-steps
returns-then-self-rows-clause-steps c = λ keeps outside name. record {
  header = search rules;
  again = search rules;
  looks = λ on. stopped_bad outside name _ _;
  gives = λ rows file known place.
      let left = rw (← c.self.view_is) at c.requires.none in
      refuses_ahead file c.args.self.now rows _ place
      (rw (← c.self.view_is) (refuses_wrong _ _ _ (constraints_from-surplus file _ _ _ _ left c.if-self-rows.true)));
}

pub returns-else-self-rows-clause-steps : goal.returns-else-self-rows-clause-steps
returns-else-self-rows-clause-steps c = λ keeps outside name. record {
  header = refl;
  again = λ why stopped. (refl, refl);
  looks = λ on. rw on refl;
  gives = λ rows file known place.
      let left = rw (← c.self.view_is) at c.requires.none in
      let end : c.self.inside.at ≡ c.self.inside.header.rows.at + c.self.inside.header.rows.size = omega
      (arith, c.if-self-rows.false, c.self.invariant.within) in
      is_on file _ c.requires.on (all_at file c.args.self.now rows place c.requires.none (rw (← c.self.view_is) (constraints_from-end file _ _ _ _ left end)));
}
