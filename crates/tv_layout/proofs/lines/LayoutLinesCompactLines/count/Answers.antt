use Rattle.tv_core.proofs.Common.{sym}
use Rattle.tv_layout.proofs.Limits.{within}
use Rattle.tv_layout.proofs.LinePlaces.{own_number}
use Rattle.tv_layout.proofs.lines.LayoutLinesCompactLines.count.Goals as goal

pub returns : goal.returns
returns g c = let l = c.args.self.now in sym (own_number _ (within _ l.fits))
