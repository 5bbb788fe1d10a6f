use Rattle.tv_core.proofs.Common.{◌≡◌, ◌++◌, map, take}
use Rattle.tv_step.specs.Cells.{boot_from}
use Rattle.tv_listing.specs.Row.{row_line}
use Rattle.tv_listing.proofs.trace_lines.push_words.Given as goal

abbrev pub invariant-loop-i : goal.invariant-loop-i
invariant-loop-i l = map row_line l.rows.items ≡ map row_line l.initial.rows.items ++ boot_from l.cell l.time (take l.i l.words)
