use Rattle.std.proofs.Common.{refl}
use Rattle.tv_isa.specs.Table.{instructions}
use Rattle.tv_isa.proofs.lookup.operations.Goals as goal

-- entry by entry
pub returns : goal.returns
unfolding instructions
returns c = refl
