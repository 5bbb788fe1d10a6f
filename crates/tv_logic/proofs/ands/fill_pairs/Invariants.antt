use Rattle.tv_core.proofs.Common.{◌≡◌, ◌+◌, false, each_below, GivesAll}
use Rattle.tv_logic.specs.Ands.{pair_in}
use Rattle.tv_logic.proofs.ands.fill_pairs.Given as goal

abbrev pub invariant-loop-i : goal.invariant-loop-i
invariant-loop-i g l = GivesAll g.V.Values.giving l.initial.v l.v (each_below l.i (λ i. pair_in g.row.W l.ands (i + 1)))
    × (g.V.Values.giving.broken l.v ≡ false)
