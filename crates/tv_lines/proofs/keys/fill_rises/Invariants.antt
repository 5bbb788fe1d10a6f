use Rattle.tv_core.proofs.Common.{◌≡◌, ℕ, ◌+◌, ◌%◌, false, each_below, GivesAll}
use Rattle.tv_bits.specs.Prefixes.{product_below}
use Rattle.tv_core.specs.declared.field.TheConstants.{P}
use Rattle.tv_lines.specs.PackedLines.{line_of_numbers}
use Rattle.tv_lines.specs.SortedPair.{factor_in}
use Rattle.tv_lines.proofs.keys.fill_rises.Given as goal

abbrev pub invariant-loop-i : goal.invariant-loop-i
invariant-loop-i g l =
    let factor : ℕ → ℕ = factor_in (line_of_numbers l.before) (line_of_numbers l.after) in
    record {
      gives : GivesAll g.V.Values.giving l.initial.v l.v (each_below l.i (λ i. product_below (i + 2) factor % P));
      whole : g.V.Values.giving.broken l.v ≡ false;
      product : l.product ≡ product_below (l.i + 1) factor % P;
    }
