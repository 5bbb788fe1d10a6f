use Rattle.std.proofs.Common.{◌≡◌}
use Rattle.tv_stages.specs.Settings.{walks}
use Rattle.tv_stages.proofs.walks.settle.Given as goal

abbrev pub invariant-loop-n : goal.invariant-loop-n
invariant-loop-n l = l.marks ≡ walks l.d l.q l.n
