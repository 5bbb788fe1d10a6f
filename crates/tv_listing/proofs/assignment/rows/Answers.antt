use Rattle.tv_core.proofs.Common.{arith}
use Rattle.tv_listing.proofs.Rows.{placed, rows_more}
use Rattle.tv_listing.proofs.assignment.rows.Goals as goal

pub line-requires-clause-within : goal.line-requires-clause-within
line-requires-clause-within g c = omega (arith, placed _ c.requires.fits)

pub loop-i-preserved : goal.loop-i-preserved
loop-i-preserved g c =
    rw c.in_ok-push.ensures.items (rows_more _ c.loop-i.i c.args.values.now c.loop-i.rows.items c.valued.result c.line.result c.requires.fits
    (omega arith) c.loop-i.invariant c.line.ensures.is c.valued.ensures)
