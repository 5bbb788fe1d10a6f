use Rattle.tv_core.proofs.Common.{◌≡◌, ◌*◌, ◌^◌, ◌≤◌}
use Rattle.tv_core.specs.Below.{sum_below}
use Rattle.tv_double_argument.specs.Checks.{check_terms}
use Rattle.tv_double_argument.proofs.terms.checks_terms.Given as goal

abbrev pub invariant-loop-i : goal.invariant-loop-i
invariant-loop-i g l =
    let all = g.L.DoubleLines.lines l.lines in
    record {
      is : l.sum ≡ sum_below l.i (λ i. check_terms (2 ^ g.row.W) (all.kind i) (all.new i));
      most : l.sum ≤ 2 ^ 9 * l.i;
    }
