use Rattle.tv_core.proofs.Common.{◌≡◌, ◌++◌, map, take}
use Rattle.tv_lines.specs.PackedLines.{packed_item}
use Rattle.tv_fill.proofs.items.push_lines.Given as goal

abbrev pub invariant-loop-line : goal.invariant-loop-line
invariant-loop-line l = l.items.items ≡ l.initial.items.items ++ map packed_item (take l.line-index l.lines)
