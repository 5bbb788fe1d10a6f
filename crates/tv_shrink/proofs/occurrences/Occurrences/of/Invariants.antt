use Rattle.tv_core.proofs.Common.{◌≡◌, ◌<◌, ◌≤◌, ℕ, None, true, get_or}
use Rattle.tv_shrink.specs.Occurrences.{has_row}
use Rattle.tv_shrink.specs.Tidy.{row_has}
use Rattle.tv_shrink.proofs.occurrences.Occurrences.of.Given as goal

abbrev pub invariant-loop-at : goal.invariant-loop-at
invariant-loop-at l = (i w : ℕ) → i < l.at → l.publics ≤ w → row_has w (get_or l.rows i None) ≡ true → has_row l.lists w i ≡ true
