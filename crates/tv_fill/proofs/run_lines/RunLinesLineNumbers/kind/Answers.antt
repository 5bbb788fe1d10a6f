use Rattle.tv_core.proofs.Common.{arith}
use Rattle.tv_fill.proofs.run_lines.RunLinesLineNumbers.kind.Goals as goal

pub line_kind-requires-clause-boot : goal.line_kind-requires-clause-boot
line_kind-requires-clause-boot c =
    let l = c.args.self.now in
    omega (arith, l.fits)
