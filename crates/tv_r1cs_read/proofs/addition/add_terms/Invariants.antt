use Rattle.tv_core.proofs.Common.{◌≡◌, ◌+◌, ◌*◌, ◌^◌, ◌≤◌}
use Rattle.tv_r1cs_read.specs.Sums.{Adds}
use Rattle.tv_r1cs_read.proofs.addition.add_terms.Given as goal

abbrev pub invariant-loop-good : goal.invariant-loop-good
invariant-loop-good g l = record {
  place : l.at ≡ l.initial.at + 12 * l.good;
  small : l.sum ≤ l.initial.sum + l.good * 2 ^ 128;
  adds : Adds l.window l.bounds l.values l.initial.at l.good l.initial.sum l.sum;
}
