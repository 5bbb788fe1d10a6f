use Rattle.tv_core.proofs.Common.{◌≡◌, ◌⊎◌, ◌≤◌, ℕ, true, None, get_or, set, length}
use Rattle.std.proofs.Common.{eqb, reverse}
use Rattle.std.specs.List.{list_any}
use Rattle.tv_shrink.specs.Pass.{row_fits}
use Rattle.tv_shrink.specs.Occurrences.{rows_from}
use Rattle.tv_shrink.proofs.occurrences.Occurrences.misfit.Given as goal

abbrev pub invariant-loop-number : goal.invariant-loop-number
invariant-loop-number l = record {
  inside : l.number ≤ length l.self-inside.entries.items;
  seen : (i : ℕ) → list_any (λ p. eqb p i) (rows_from (reverse l.self-inside.entries.items) l.initial.number) ≡ true
      → (row_fits l.by.wire l.by.terms (get_or (set l.rows l.but None) i None) ≡ true)
      ⊎ (list_any (λ p. eqb p i) (rows_from (reverse l.self-inside.entries.items) l.number) ≡ true);
}

abbrev pub decreases-loop-number : goal.decreases-loop-number
decreases-loop-number l = l.number
