use Rattle.tv_core.proofs.Common.{◌≡◌, ◌≤◌, ◌++◌, length}
use Rattle.std.proofs.Common.{reverse}
use Rattle.tv_shrink.specs.Occurrences.{rows_from}
use Rattle.tv_shrink.proofs.occurrences.Occurrences.rows_of.Given as goal

abbrev pub invariant-loop-number : goal.invariant-loop-number
invariant-loop-number l = record {
  inside : l.number ≤ length l.self-inside.entries.items;
  so_far : l.rows.items ++ rows_from (reverse l.self-inside.entries.items) l.number ≡ rows_from (reverse l.self-inside.entries.items) l.initial.number;
}

abbrev pub decreases-loop-number : goal.decreases-loop-number
decreases-loop-number l = l.number
