use Rattle.tv_container.proofs.Buffers.{took_none}
use Rattle.tv_container.proofs.pending.Pending.make_room.Goals as goal

pub returns-else-is_full-clause-took : goal.returns-else-is_full-clause-took
returns-else-is_full-clause-took g c = took_none
