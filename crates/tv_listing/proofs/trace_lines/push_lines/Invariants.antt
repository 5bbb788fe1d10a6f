use Rattle.tv_core.proofs.Common.{◌≡◌, ◌++◌, map, take}
use Rattle.tv_listing.specs.Row.{row_line}
use Rattle.tv_listing.proofs.trace_lines.push_lines.Given as goal

abbrev pub invariant-loop-line : goal.invariant-loop-line
invariant-loop-line l = map row_line l.rows.items ≡ map row_line l.initial.rows.items ++ take l.line-index l.lines
