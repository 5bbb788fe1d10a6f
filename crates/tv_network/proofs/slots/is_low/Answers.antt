use Rattle.tv_core.proofs.Common.{◌/◌, ◌%◌, ◌==◌, ap}
use Rattle.tv_stages.specs.Stages.{is_low}
use Rattle.tv_network.proofs.slots.is_low.Goals as goal

pub returns : goal.returns
unfolding is_low
returns c = ap (λ s. c.args.slot / s % 2 == 0) c.stride.ensures.is
