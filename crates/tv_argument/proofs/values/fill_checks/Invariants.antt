use Rattle.tv_core.proofs.Common.{◌≡◌, false, joined_below, GivesAll}
use Rattle.tv_lines.specs.PackedLines.{unpacked}
use Rattle.tv_lines.specs.Placed.{number_in}
use Rattle.tv_network.specs.Filling.{pair_at}
use Rattle.tv_argument.specs.Checks.{check_values}
use Rattle.tv_argument.proofs.values.fill_checks.Given as goal

abbrev pub invariant-loop-i : goal.invariant-loop-i
invariant-loop-i g l = record {
  gives : GivesAll g.V.Values.giving l.initial.v l.v
      (joined_below l.i (λ i. check_values ((g.L.LineNumbers.checks l.lines).kind i) (unpacked (pair_at l.items i))
      (number_in (g.L.LineNumbers.lines l.lines) i)));
  whole : g.V.Values.giving.broken l.v ≡ false;
}
