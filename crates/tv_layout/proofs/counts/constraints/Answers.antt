use Rattle.tv_core.proofs.Common.{◌*◌, ap, arith}
use Rattle.tv_block.specs.declared.costs.StepCosts.{StepCosts}
use Rattle.tv_layout.proofs.SystemSizes.{system_fits, system_sized}
use Rattle.tv_layout.proofs.counts.constraints.Goals as goal

pub overflow_cast-memory : goal.overflow_cast-memory
overflow_cast-memory g c =
    let room = system_fits c.args.net _ c.requires in
    omega (arith, room.constraints, c.memory_constraints-memory.ensures)

pub overflow_add-result-5 : goal.overflow_add-result-5
overflow_add-result-5 g c =
    let room = system_fits c.args.net _ c.requires in
    omega (arith, room.constraints, c.memory_constraints-memory.ensures, ap (λ (s : StepCosts). c.args.t * s.constraints) c.step_costs.ensures.is)

pub returns : goal.returns
returns g c =
    let law = system_sized c.args.net _ c.requires in
    omega (arith, law.constraints, ap (λ (s : StepCosts). c.args.t * s.constraints) c.step_costs.ensures.is, c.memory_constraints-memory.ensures)
