use Rattle.tv_core.proofs.Common.{◌≡◌, suc, ◌+◌, ◌*◌, ◌^◌, false, GivesAll}
use Rattle.tv_benes.specs.Items.{bit_at, item_of}
use Rattle.tv_benes.specs.Network.{column_values}
use Rattle.tv_benes.specs.Through.{switches, from, last_item}
use Rattle.tv_benes.proofs.values.fill_last.Given as goal

abbrev pub invariant-loop-j : goal.invariant-loop-j
invariant-loop-j g l =
    let bit = bit_at l.bits in
    record {
      gives : GivesAll g.V.Values.giving l.initial.v l.v
          (column_values l.j (from (2 ^ suc l.h + 2 * switches l.net l.h) bit) (last_item l.net l.h bit (item_of l.items)));
      whole : g.V.Values.giving.broken l.v ≡ false;
    }
