use Rattle.std.proofs.Common.{length}
use Rattle.tv_asm.proofs.LabelLemmas.{IsRead}
use Rattle.tv_asm.proofs.labels.Labels.of.Given as goal

abbrev pub invariant-loop-line : goal.invariant-loop-line
invariant-loop-line g l = IsRead g.row.W l.labels l.place l.rest l.text

abbrev pub decreases-loop-line : goal.decreases-loop-line
decreases-loop-line g l = length l.rest
