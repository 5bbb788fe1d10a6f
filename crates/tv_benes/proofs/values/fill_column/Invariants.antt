use Rattle.tv_core.proofs.Common.{◌≡◌, false, GivesAll}
use Rattle.tv_benes.specs.Items.{bit_at, item_of}
use Rattle.tv_benes.specs.Network.{column_values}
use Rattle.tv_benes.proofs.values.fill_column.Given as goal

abbrev pub invariant-loop-j : goal.invariant-loop-j
invariant-loop-j g l = record {
  gives : GivesAll g.V.Values.giving l.initial.v l.v (column_values l.j (bit_at l.bits) (item_of l.items));
  whole : g.V.Values.giving.broken l.v ≡ false;
}
