use Rattle.tv_core.proofs.Common.{All, take}
use Rattle.tv_outline.specs.Expansion.{IsShort}
use Rattle.tv_outline.proofs.outline.are_short.Given as goal

abbrev pub invariant-loop-row : goal.invariant-loop-row
invariant-loop-row l = All IsShort (take l.row-index l.rows)
