use Rattle.tv_core.proofs.Common.{◌≡◌, ◌++◌, map, take}
use Rattle.tv_lines.specs.PackedLines.{packed_item}
use Rattle.tv_step.specs.Cells.{boot_from}
use Rattle.tv_fill.proofs.items.push_words.Given as goal

abbrev pub invariant-loop-i : goal.invariant-loop-i
invariant-loop-i l = l.items.items ≡ l.initial.items.items ++ map packed_item (boot_from l.cell l.time (take l.i l.words))
