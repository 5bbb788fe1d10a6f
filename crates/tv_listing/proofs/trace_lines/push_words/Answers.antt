use Rattle.tv_core.proofs.Common.{refl}
use Rattle.tv_listing.proofs.Rows.{words_pushed}
use Rattle.tv_listing.proofs.trace_lines.push_words.Goals as goal

pub loop-i-preserved : goal.loop-i-preserved
loop-i-preserved c =
    rw c.in_ok-push.ensures.items
    (words_pushed _ c.loop-i.rows.items _ c.args.cell c.args.time c.loop-i.i c.args.words.now c.loop-i-test.true c.loop-i.invariant
    (rw (c.from.ensures, c.from-in-loop-i.ensures, c.from-in-loop-i-2.ensures) refl))
