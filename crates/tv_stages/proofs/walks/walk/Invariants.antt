use Rattle.std.proofs.Common.{length}
use Rattle.tv_stages.proofs.Walking.{IsUnderway, left}
use Rattle.tv_stages.proofs.Marked.{IsLeading}
use Rattle.tv_stages.proofs.walks.walk.Given as goal

abbrev pub invariant-loop-input : goal.invariant-loop-input
invariant-loop-input l = record {
  underway : IsUnderway (length l.q) l.d l.q l.r l.start l.fn.marks l.i l.marks;
  leads : IsLeading l.d l.q l.start l.fn.marks l.i l.marks;
}

abbrev pub decreases-loop-input : goal.decreases-loop-input
decreases-loop-input l = left l.marks
