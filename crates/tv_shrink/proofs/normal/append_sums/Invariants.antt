use Rattle.tv_core.proofs.Common.{◌≡◌, ◌≤◌, ◌++◌, drop, length, normal}
use Rattle.tv_r1cs_read.specs.Rows.{combination_of}
use Rattle.tv_shrink.proofs.SortLaws.{with_sum}
use Rattle.tv_shrink.proofs.normal.append_sums.Given as goal

abbrev pub invariant-loop-at : goal.invariant-loop-at
invariant-loop-at l = record {
  so_far : l.out.items ++ normal (with_sum l.sum (drop l.at (combination_of l.terms)))
      ≡ l.initial.out.items ++ normal (combination_of l.terms);
  longer : length l.initial.out.items ≤ length l.out.items;
}
