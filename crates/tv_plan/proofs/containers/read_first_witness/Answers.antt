use Rattle.tv_core.proofs.Common.{true, rules, refl}
use Rattle.tv_wtns.specs.Wtns.{assignment_of, firsts, firsts_in}
use Rattle.tv_plan.specs.Containers.{witness_bad}
use Rattle.tv_plan.specs.Flaws.{Flaw.{OfWitness}}
use Rattle.tv_plan.specs.Plan.{named}
use Rattle.tv_plan.proofs.ContainerReads.{came_by, finds_read}
use Rattle.tv_plan.proofs.containers.read_first_witness.Goals as goal

pub returns : goal.returns
returns g c =
    finds_read true firsts_in (named c.args.place) OfWitness witness_bad (λ file. firsts c.args.most (assignment_of file)) _ _ c.read_first_values.result _
    (came_by _ _ _ _ c.map_err.ensures.cases (λ why s is. search rules)) (λ _. refl) c.read_first_values.ensures.gives
    c.read_first_values.ensures.looks c.read_first_values.ensures.missing
