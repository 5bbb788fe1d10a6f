use Rattle.tv_core.proofs.Common.{refl, all_last, all_then, emits_as, emits_here, refused_whole, some_first, some_then}
use Rattle.std.proofs.Common.{zero-add}
use Rattle.tv_network.specs.Network.{network_of}
use Rattle.tv_network.proofs.emission.network.Goals as goal

pub returns-in_err-stages : goal.returns-in_err-stages
unfolding network_of
returns-in_err-stages g c =
    let stages = rw c.new-levels.ensures.network at c.in_err-stages.ensures.emits in
    refused_whole _ _ _ c.from_residual.ensures (some_then _ (emits_here c.requires.room.whole c.wires.ensures) (some_first _ stages))

pub returns-in_err-loose : goal.returns-in_err-loose
unfolding network_of
returns-in_err-loose g c =
    let stages = rw c.new-levels.ensures.network at c.in_ok-stages.ensures.emits in
    let loose = rw (c.new-levels.ensures.network, c.new-levels.ensures.first) at c.in_err-loose.ensures.emits in
    refused_whole _ _ _ c.from_residual-in_err-loose.ensures
    (some_then _ (emits_here c.requires.room.whole c.wires.ensures) (some_then _ stages (some_first _ loose)))

pub returns : goal.returns
unfolding network_of
returns g c =
    let stages = rw c.new-levels.ensures.network at c.in_ok-stages.ensures.emits in
    let loose = rw (c.new-levels.ensures.network, c.new-levels.ensures.first) at c.in_ok-loose.ensures.emits in
    record {
      emits = emits_as (zero-add _) (zero-add _)
          (all_then _ (emits_here c.requires.room.whole c.wires.ensures) (all_then _ stages (all_last _ loose refl)));
    }
