use Rattle.tv_core.proofs.Common.{◌∙◌, arith}
use Rattle.tv_layout.proofs.Limits.{within}
use Rattle.tv_layout.proofs.LinePlaces.{in_own, own_number}
use Rattle.tv_layout.proofs.Positions.{log_above}
use Rattle.tv_layout.proofs.Whole.{few}
use Rattle.tv_layout.proofs.lines.LayoutLinesCompactLines.line.Goals as goal

pub compact_line-requires-clause-fits : goal.compact_line-requires-clause-fits
compact_line-requires-clause-fits g c = let l = c.args.self.now in within _ l.fits

pub compact_line-requires-clause-within : goal.compact_line-requires-clause-within
compact_line-requires-clause-within g c =
    let l = c.args.self.now in
    let fits = within _ l.fits in
    omega (arith, c.requires, own_number _ fits, log_above _ (few _ fits))

pub returns : goal.returns
returns g c = record {
  is =
      let l = c.args.self.now in
      let fits = within _ l.fits in
      c.compact_line.ensures.is ∙ in_own _ fits c.args.i (omega (arith, c.requires, own_number _ fits));
}
