use Rattle.tv_listing.proofs.Rows.{line_pushed}
use Rattle.tv_listing.proofs.trace_lines.push_lines.Goals as goal

pub loop-line-preserved : goal.loop-line-preserved
loop-line-preserved c = rw c.in_ok-push.ensures.items (line_pushed _ _ _ _ _ _ c.loop-line.invariant c.loop-line-test.true c.of.ensures)
