use Rattle.tv_core.proofs.Common.{◌≡◌, ◌≤◌, ℕ, true, take}
use Rattle.tv_shrink.specs.Occurrences.{has_row}
use Rattle.tv_shrink.specs.Substitution.{has_wire}
use Rattle.tv_shrink.proofs.occurrences.Occurrences.file.Given as goal

abbrev pub invariant-loop-wire : goal.invariant-loop-wire
invariant-loop-wire l = record {
  more : (w i : ℕ) → has_row l.initial.self w i ≡ true → has_row l.self w i ≡ true;
  added : (w : ℕ) → l.publics ≤ w → has_wire w (take l.wire-index l.terms) ≡ true → has_row l.self w l.row ≡ true;
}
