use Rattle.tv_core.proofs.Common.{arith}
use Rattle.tv_decode.proofs.decoder.row_of.Goals as goal

pub onehot_by-requires : goal.onehot_by-requires
onehot_by-requires g c = rw c.part.ensures (record { room = c.requires.room; short = c.requires.short; x_made = omega arith })

pub returns : goal.returns
returns g c = rw c.part.ensures at c.onehot_by.ensures
