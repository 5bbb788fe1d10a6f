use Rattle.tv_core.proofs.Common.{◌≡◌, ◌++◌, take}
use Rattle.tv_shrink.proofs.row.append.Given as goal

abbrev pub invariant-loop-term : goal.invariant-loop-term
invariant-loop-term l = l.out.items ≡ l.initial.out.items ++ take l.term-index l.terms
