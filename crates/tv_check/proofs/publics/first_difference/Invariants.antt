use Rattle.tv_core.proofs.Common.{◌≡◌, ◌≤◌, length, drop}
use Rattle.tv_check.specs.Verdict.{first_difference}
use Rattle.tv_check.proofs.Difference.{behind}
use Rattle.tv_check.proofs.publics.first_difference.Given as goal

abbrev pub invariant-loop-at : goal.invariant-loop-at
invariant-loop-at l = record {
  within : l.at ≤ length l.ys;
  rest : behind l.at (first_difference (drop l.at l.xs) (drop l.at l.ys)) ≡ first_difference l.xs l.ys;
}
