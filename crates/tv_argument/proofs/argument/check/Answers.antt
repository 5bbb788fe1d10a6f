use Rattle.tv_core.proofs.Common.{emits_no_turn, pure, turns}
use Rattle.tv_argument.proofs.argument.check.Goals as goal

pub returns-in-ZeroOld : goal.returns-in-ZeroOld
unfolding turns
returns-in-ZeroOld g c = record { emits = rw c.in-ZeroOld.is (emits_no_turn (λ i a. pure a) tt c.requires.room.whole) }
