use Rattle.tv_core.proofs.Common.{◌≡◌, ◌+◌, ◌++◌, length, scaled, normal, IsNormalFrom}
use Rattle.tv_shrink.proofs.merge.merge.Given as goal

abbrev pub invariant-loop-left : goal.invariant-loop-left
invariant-loop-left l = record {
  left : IsNormalFrom 0 l.left.terms.now;
  right : IsNormalFrom 0 l.right.terms.now;
  whole : l.out.items ++ normal (scaled l.left.factor l.left.terms.now ++ scaled l.right.factor l.right.terms.now)
      ≡ l.initial.out.items ++ normal (scaled l.initial.left.factor l.initial.left.terms.now
      ++ scaled l.initial.right.factor l.initial.right.terms.now);
}

abbrev pub decreases-loop-left : goal.decreases-loop-left
decreases-loop-left l = length l.left.terms.now + length l.right.terms.now
