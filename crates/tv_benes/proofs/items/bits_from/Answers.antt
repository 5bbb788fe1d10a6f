use Rattle.tv_benes.proofs.Sources.{bits_after}
use Rattle.tv_benes.proofs.items.bits_from.Goals as goal

pub returns : goal.returns
returns c = rw c.min.ensures (bits_after c.args.bits.now c.args.n)
