use Rattle.tv_core.proofs.Common.{false, rules, refl}
use Rattle.tv_r1cs_read.specs.Survey.{survey_of}
use Rattle.tv_plan.specs.Containers.{system_bad}
use Rattle.tv_plan.specs.Flaws.{Flaw.{OfSystem}}
use Rattle.tv_plan.specs.Plan.{named}
use Rattle.tv_plan.proofs.ContainerReads.{finds_read}
use Rattle.tv_plan.proofs.containers.survey_system.Goals as goal

pub returns : goal.returns
returns g c =
    finds_read false (λ counts. counts) (named c.args.place) OfSystem system_bad survey_of _ _ c.survey.result _ (search rules) (λ _. refl)
    c.survey.ensures.gives c.survey.ensures.looks c.survey.ensures.missing
