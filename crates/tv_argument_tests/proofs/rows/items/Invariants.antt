use Rattle.tv_core.proofs.Common.{◌≡◌, length, map}
use Rattle.tv_lines.specs.PackedLines.{unpacked}
use Rattle.tv_lines.specs.Placed.{LinesFrom}
use Rattle.tv_argument_tests.proofs.rows.items.Given as goal

abbrev pub invariant-loop-time : goal.invariant-loop-time
invariant-loop-time l = record {
  many : length l.items.items ≡ l.time;
  times : LinesFrom 0 (map unpacked l.items.items);
}
