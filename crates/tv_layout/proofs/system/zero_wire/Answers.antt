use Rattle.tv_core.proofs.Common.{then_in}
use Rattle.tv_layout.specs.Layout.{zero_wire_of}
use Rattle.tv_layout.proofs.system.zero_wire.Goals as goal

pub returns : goal.returns
unfolding zero_wire_of
returns g c = record {
  emits =
      let sum = rw (c.wire.ensures, c.constant.ensures, c.empty.ensures) at c.put.ensures.emits in
      then_in _ _ _ _ _ c.fresh-w.ensures.emits sum;
}
