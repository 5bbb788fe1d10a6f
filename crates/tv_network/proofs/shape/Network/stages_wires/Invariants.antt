use Rattle.tv_core.proofs.Common.{◌≡◌, ◌*◌, ◌^◌, ◌≤◌}
use Rattle.tv_network.specs.Stages.{wires_before}
use Rattle.tv_network.proofs.shape.Network.stages_wires.Given as goal

abbrev pub invariant-loop-l : goal.invariant-loop-l
invariant-loop-l l = record { is : l.wires ≡ wires_before l.self l.l; few : l.wires ≤ l.l * (5 * 2 ^ 25) }
