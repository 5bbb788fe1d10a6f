use Rattle.tv_core.proofs.Common.{◌≡◌, ◌*◌, ◌^◌, ◌≤◌}
use Rattle.tv_core.specs.Below.{sum_below}
use Rattle.tv_lines.specs.Placed.{line_in}
use Rattle.tv_argument.specs.Checks.{check_terms}
use Rattle.tv_argument.proofs.terms.checks_terms.Given as goal

abbrev pub invariant-loop-i : goal.invariant-loop-i
invariant-loop-i g l = record {
  is : l.sum ≡ sum_below l.i (λ i. check_terms ((g.L.CompactLines.checks l.lines).kind i) (line_in (g.L.CompactLines.lines l.lines) i));
  most : l.sum ≤ 2 ^ 8 * l.i;
}
