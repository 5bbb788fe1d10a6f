use Rattle.tv_core.proofs.Common.{◌∙◌}
use Rattle.tv_layout.proofs.SpotPlaces.{line_below}
use Rattle.tv_layout.proofs.lines.line.Goals as goal

pub returns-clause-below : goal.returns-clause-below
returns-clause-below g c net = line_below net _ c.requires.fits c.args.i c.requires.within _ (c.lc.ensures ∙ c.compact_line.ensures.is)
