use Rattle.tv_container.proofs.Buffers.{took_last, took_then}
use Rattle.tv_r1cs_write.proofs.parts.write_labels.Goals as goal

pub returns-clause-took : goal.returns-clause-took
returns-clause-took g c = took_last (took_then (rw c.from.ensures at c.put_pair.ensures) c.put_labels.ensures) c.flush.ensures.took
