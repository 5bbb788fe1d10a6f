use Rattle.tv_asm.proofs.RangeLemmas.{images_short}
use Rattle.tv_asm.proofs.laws.images_are_short.Goals as goal

pub returns : goal.returns
returns c = images_short
