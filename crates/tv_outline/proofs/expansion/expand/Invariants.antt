use Rattle.tv_core.proofs.Common.{◌≡◌, ◌++◌, List, length}
use Rattle.tv_core.specs.Constraints.{Constraint}
use Rattle.tv_core.specs.Sinks.{EmitsAll}
use Rattle.tv_outline.specs.Expansion.{expansion_of, put_all}
use Rattle.tv_outline.specs.Places.{IsAt, left_at}
use Rattle.tv_outline.proofs.expansion.expand.Given as goal

-- some constraints were put, and the rest of the expansion is left
abbrev pub invariant-loop-at : goal.invariant-loop-at
invariant-loop-at g l = (done : List Constraint) × record {
  at : IsAt l.outline l.at;
  all : done ++ left_at l.outline l.at ≡ expansion_of l.outline;
  emits : EmitsAll g.S.Sink.meaning l.initial.s l.s (put_all done) 0 (length done) tt;
}

abbrev pub decreases-loop-at : goal.decreases-loop-at
decreases-loop-at g l = length (left_at l.outline l.at)
