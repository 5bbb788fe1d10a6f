use Rattle.tv_core.proofs.Common.{◌≤◌, sym, subst, arith}
use Rattle.tv_layout.proofs.Limits.{within}
use Rattle.tv_layout.proofs.Positions.{log_within}
use Rattle.tv_layout.proofs.Whole.{few}
use Rattle.tv_layout.specs.Places.{runs_of}
use Rattle.tv_layout.proofs.lines.LayoutLinesCompactLines.kind.Goals as goal

pub line_kind-requires-clause-few : goal.line_kind-requires-clause-few
line_kind-requires-clause-few g c =
    let l = c.args.self.now in
    let fits = within _ l.fits in
    subst (λ k. k ≤ 20) (sym l.log) (log_within _ (few (runs_of g.row.W l.image.now l.n l.t) fits))

pub line_kind-requires-clause-boot : goal.line_kind-requires-clause-boot
line_kind-requires-clause-boot g c =
    let l = c.args.self.now in
    let fits = within _ l.fits in
    omega (arith, fits.image_fits, fits.tape_fits)
