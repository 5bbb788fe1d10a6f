use Rattle.tv_core.proofs.Common.{◌≡◌, ℕ}
use Rattle.tv_core.specs.declared.lines.Counts.{Counts}
use Rattle.tv_layout.proofs.counts.sizes.Goals as goal

same_counts : (n a b c d e f : ℕ) → a ≡ d → b ≡ e → c ≡ f → ◌≡◌ {A = Counts} (record { wires = a; outputs = 1; inputs = n; constraints = b; terms = c })
    (record { wires = d; outputs = 1; inputs = n; constraints = e; terms = f })
same_counts n a b c d e f p q r = cc

pub returns-clause-counts : goal.returns-clause-counts
returns-clause-counts g c = same_counts c.args.n _ _ _ _ _ _ c.wires.ensures.is c.constraints.ensures c.terms.ensures.is
