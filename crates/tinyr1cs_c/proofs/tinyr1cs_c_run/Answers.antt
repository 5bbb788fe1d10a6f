use Rattle.std.proofs.Common.{◌∙◌, subst}
use Rattle.tinyr1cs_c.specs.Command.{Ran, Runs}
use Rattle.tinyr1cs_c.proofs.Done.{on_session}
use Rattle.tinyr1cs_c.specs.declared.session.Session.{Session}
use Rattle.tinyr1cs_c.proofs.tinyr1cs_c_run.Goals as goal

pub returns : goal.returns
returns c =
    on_session _ _ _ Runs _ _ c.in-Some.ensures.taken c.put.ensures (
      c.run-status.result,
      (c.from.ensures ∙ c.code-2.ensures),
      subst (λ (session : Session). Ran session c.run-status.new.self c.run-status.result) c.as_mut.ensures.value c.run-status.ensures,
    )
