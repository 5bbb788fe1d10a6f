use Rattle.tv_core.proofs.Common.{false, rules, refl}
use Rattle.tv_check.specs.Verdict.{verdict_of}
use Rattle.tv_plan.specs.Containers.{system_bad}
use Rattle.tv_plan.specs.Flaws.{Flaw.{OfSystem}}
use Rattle.tv_plan.specs.Plan.{named}
use Rattle.tv_plan.proofs.ContainerReads.{finds_read}
use Rattle.tv_plan.proofs.containers.judge_system.Goals as goal

pub returns : goal.returns
returns g c =
    finds_read false (λ verdict. verdict) (named c.args.place) OfSystem system_bad (λ file. verdict_of file c.args.values.now c.args.publics.now) _ _
    c.check.result _ (search rules) (λ _. refl) c.check.ensures.gives c.check.ensures.looks c.check.ensures.missing
