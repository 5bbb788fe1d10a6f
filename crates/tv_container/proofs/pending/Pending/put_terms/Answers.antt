use Rattle.tv_container.proofs.Buffers.{took_then, pushed}
use Rattle.tv_container.proofs.pending.Pending.put_terms.Goals as goal

pub returns-clause-took : goal.returns-clause-took
returns-clause-took g c =
    took_then c.make_room.ensures.took (took_then (pushed (rw c.short_bytes.ensures at c.push.ensures.bytes)) (pushed c.push_terms.ensures.bytes))
