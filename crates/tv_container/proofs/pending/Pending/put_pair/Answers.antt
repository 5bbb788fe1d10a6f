use Rattle.tv_container.proofs.Buffers.{took_then, pushed}
use Rattle.tv_container.proofs.pending.Pending.put_pair.Goals as goal

pub returns : goal.returns
returns g c = took_then c.make_room.ensures.took (pushed c.push_pair.ensures.bytes)
