use Rattle.std.proofs.lemmas.List.FromFn.{length-range_with_len}
use Rattle.tv_container.proofs.Buffers.{unrefused}
use Rattle.tv_r1cs_write.specs.Streams.{stream}
use Rattle.tv_r1cs_write.proofs.Finish.{finished_by}
use Rattle.tv_r1cs_write.proofs.Others.{others_none}
use Rattle.tv_r1cs_write.proofs.stream.StreamSink.finish.Goals as goal

pub returns : goal.returns
returns g c =
    let took = rw (c.from.ensures, others_none c.args.self.counts.wires) at (c.write_labels.ensures.took.passes (unrefused _ c.requires.whole)) in
    finished_by (stream g.D.Files.seen c.args.self) _ _ _ _ (length-range_with_len 0 c.args.self.counts.wires) took c.write_labels.ensures.none
