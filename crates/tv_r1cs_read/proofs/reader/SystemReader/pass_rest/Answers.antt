use Rattle.tv_core.proofs.Common.{[], ◌++◌, ◌∙◌, append_assoc, append-nil, sym, rules, refl}
use Rattle.std.proofs.lemmas.Option.{MatchOption-at_none}
use Rattle.tv_r1cs_read.proofs.Done.{passed_all}
use Rattle.tv_r1cs_read.proofs.reader.SystemReader.pass_rest.Goals as goal

pub loop-init : goal.loop-init
loop-init g c = record {
  same = refl;
  outside = refl;
  name = refl;
  header = refl;
  on = sym c.stopped.ensures ∙ c.in-None.is;
  place = λ rows file known start. ([], rw append-nil start);
}

pub loop-preserved : goal.loop-preserved
loop-preserved g c = record {
  same = search rules;
  outside = MatchOption-at_none _ _ c.in-Some.ensures.goes (c.in-Some.ensures.steps.looks c.loop.invariant.on) ∙ c.loop.invariant.outside;
  name = search rules;
  header = c.in-Some.ensures.steps.header ∙ c.loop.invariant.header;
  on = c.in-Some.ensures.goes;
  place = λ rows file known start.
      let before = c.loop.invariant.place rows file known start in
      let seen = rw (← c.loop.invariant.outside, ← c.loop.invariant.name) at known in
      let failed = MatchOption-at_none _ _ c.in-Some.ensures.goes (c.in-Some.ensures.steps.gives (rows ++ before.0) file seen before.1) in
      (before.0 ++ failed.0, rw (← append_assoc rows before.0 failed.0) failed.1);
}

pub returns-clause-steps : goal.returns-clause-steps
returns-clause-steps g c = record {
  header = c.in_default-first_failure.ensures.steps.header ∙ c.loop.invariant.header;
  again = search rules;
  looks = search rules;
  gives = λ rows file known start.
      let before = c.loop.invariant.place rows file known start in
      let seen = rw (← c.loop.invariant.outside, ← c.loop.invariant.name) at known in
      passed_all file [] _ rows before.0 (c.in_default-first_failure.ensures.steps.gives (rows ++ before.0) file seen before.1);
}
