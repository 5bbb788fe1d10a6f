use Rattle.tv_core.proofs.Common.{◌*◌, ap, arith}
use Rattle.tv_block.specs.declared.costs.StepCosts.{StepCosts}
use Rattle.tv_layout.proofs.SystemSizes.{system_fits, system_sized}
use Rattle.tv_layout.proofs.counts.wires.Goals as goal

pub overflow_cast-memory : goal.overflow_cast-memory
overflow_cast-memory g c =
    let room = system_fits c.args.net _ c.requires in
    omega (arith, room.wires, c.memory_wires-memory.ensures)

pub overflow_add-result-3 : goal.overflow_add-result-3
overflow_add-result-3 g c =
    let room = system_fits c.args.net _ c.requires in
    omega (arith, room.wires, c.memory_wires-memory.ensures, ap (λ (s : StepCosts). c.args.t * s.wires) c.step_costs.ensures.is)

pub overflow_add-result-4 : goal.overflow_add-result-4
overflow_add-result-4 g c =
    let room = system_fits c.args.net _ c.requires in
    omega (arith, room.wires, c.memory_wires-memory.ensures, ap (λ (s : StepCosts). c.args.t * s.wires) c.step_costs.ensures.is, c.public_wires.ensures)

pub returns-clause-is : goal.returns-clause-is
returns-clause-is g c =
    let law = system_sized c.args.net _ c.requires in
    omega (arith, law.wires, ap (λ (s : StepCosts). c.args.t * s.wires) c.step_costs.ensures.is, c.memory_wires-memory.ensures, c.public_wires.ensures)
