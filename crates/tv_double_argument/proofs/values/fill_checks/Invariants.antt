use Rattle.tv_core.proofs.Common.{◌≡◌, ◌^◌, false, joined_below, GivesAll}
use Rattle.tv_double_argument.specs.Order.{routed_check}
use Rattle.tv_network.specs.Filling.{pair_at}
use Rattle.tv_double_argument.proofs.values.fill_checks.Given as goal

abbrev pub invariant-loop-i : goal.invariant-loop-i
invariant-loop-i g l = record {
  gives : GivesAll g.V.Values.giving l.initial.v l.v
      (joined_below l.i (routed_check (2 ^ g.row.W) (g.L.DoubleNumbers.numbers l.lines) (pair_at l.items)));
  whole : g.V.Values.giving.broken l.v ≡ false;
}
