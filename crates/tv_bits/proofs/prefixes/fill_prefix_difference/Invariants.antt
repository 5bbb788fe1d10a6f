use Rattle.tv_core.proofs.Common.{◌≡◌, ℕ, ◌+◌, ◌*◌, ◌%◌, false, each_below, GivesAll}
use Rattle.tv_core.specs.declared.field.TheConstants.{P}
use Rattle.tv_bits.specs.Prefixes.{prefix_less_in, product_below}
use Rattle.tv_bits.proofs.prefixes.fill_prefix_difference.Given as goal

abbrev pub invariant-loop-i : goal.invariant-loop-i
invariant-loop-i g l =
    let factor : ℕ → ℕ = λ j. prefix_less_in l.x l.y l.d (l.chunk * j) in
    record {
      gives : GivesAll g.V.Values.giving l.initial.v l.v (each_below l.i (λ i. product_below (i + 2) factor % P));
      whole : g.V.Values.giving.broken l.v ≡ false;
      product : l.product ≡ product_below (l.i + 1) factor % P;
    }
