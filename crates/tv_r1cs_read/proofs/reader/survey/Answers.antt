use Rattle.tv_core.proofs.Common.{◌∙◌, [], sym}
use Rattle.std.proofs.lemmas.Option.{MatchOption-at_none, MatchOption-at_some}
use Rattle.tv_container.proofs.Chain.{refuses_first}
use Rattle.tv_r1cs_read.specs.Survey.{survey_of}
use Rattle.tv_r1cs_read.proofs.reader.survey.Goals as goal

pub returns-in-Some-clause-gives : goal.returns-in-Some-clause-gives
unfolding survey_of
returns-in-Some-clause-gives g c = λ file known.
    let begun = rw (← c.in-Ok.ensures.ok_looks, ← c.in-Ok.ensures.name) at known in
    let ended = c.pass_rest.ensures.steps.gives [] file begun (c.in-Ok.ensures.gives file known) in
    refuses_first _ _ _ (MatchOption-at_some _ _ _ (sym c.stopped.ensures ∙ c.in-Some.is) ended)

pub returns-in-None-clause-gives : goal.returns-in-None-clause-gives
returns-in-None-clause-gives g c = λ file known.
    let begun = rw (← c.in-Ok.ensures.ok_looks, ← c.in-Ok.ensures.name) at known in
    let ended = c.pass_rest.ensures.steps.gives [] file begun (c.in-Ok.ensures.gives file known) in
    let all = MatchOption-at_none _ _ (sym c.stopped.ensures ∙ c.in-None.is) ended in
    rw c.counts.ensures all.1.counts
