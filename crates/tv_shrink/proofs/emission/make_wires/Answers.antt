use Rattle.tv_core.proofs.Common.{all_last, emits_no_turn, emits_turn, refl}
use Rattle.tv_shrink.proofs.emission.make_wires.Goals as goal

pub loop-init : goal.loop-init
loop-init g c = record { emits = emits_no_turn _ _ c.requires.room.whole }

pub loop-preserved : goal.loop-preserved
loop-preserved g c = record { emits = emits_turn _ _ _ c.loop.invariant.emits (all_last _ c.fresh.ensures.emits refl) }
