use Rattle.tv_core.proofs.Common.{◌≡◌, false, map, joined_below, GivesAll}
use Rattle.tv_lines.specs.PackedLines.{line_of_numbers}
use Rattle.tv_scan.specs.Scan.{look_values, word_after}
use Rattle.tv_scan.proofs.scans.fill_scan.Given as goal

abbrev pub invariant-loop-before : goal.invariant-loop-before
invariant-loop-before g l = record {
  gives : GivesAll g.V.Values.giving l.initial.v l.v (joined_below l.before-index (look_values (map line_of_numbers l.earlier) (line_of_numbers l.line)));
  whole : g.V.Values.giving.broken l.v ≡ false;
  word : l.word ≡ word_after (map line_of_numbers l.earlier) (line_of_numbers l.line) l.before-index;
}
