use Rattle.std.proofs.Common.{◌≡◌, ◌*◌, ◌≤◌}
use Rattle.tv_stages.specs.Stages.{first_switch}
use Rattle.tv_stages.proofs.shape.first_switch.Given as goal

abbrev pub invariant-loop-m : goal.invariant-loop-m
invariant-loop-m l = record { is : l.first ≡ first_switch l.net l.slots l.m; few : l.first ≤ l.m * l.slots }
