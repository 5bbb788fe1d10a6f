use Rattle.tv_core.proofs.Common.{All, take}
use Rattle.tv_outline.specs.Expansion.{IsProper}
use Rattle.tv_outline.proofs.outline.Outline.is_proper.Given as goal

abbrev pub invariant-loop-region : goal.invariant-loop-region
invariant-loop-region l = All IsProper (take l.region-index l.self.regions.items)
