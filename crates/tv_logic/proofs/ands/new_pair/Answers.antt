use Rattle.tv_core.proofs.Common.{then_in}
use Rattle.tv_logic.specs.Ands.{new_and_pair_of}
use Rattle.tv_logic.proofs.ands.new_pair.Goals as goal

pub returns : goal.returns
unfolding new_and_pair_of
returns g c = record { emits = then_in _ _ _ _ _ c.fresh-w.ensures.emits c.pair.ensures.emits }
