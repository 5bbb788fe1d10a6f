use Rattle.tv_container.proofs.Buffers.{unrefused}
use Rattle.tv_r1cs_write.specs.Streams.{stream}
use Rattle.tv_r1cs_write.proofs.Finish.{finished_by}
use Rattle.tv_r1cs_write.proofs.stream.StreamSink.finish_labelled.Goals as goal

pub returns : goal.returns
returns g c = finished_by (stream g.D.Files.seen c.args.self) _ _ _ _ c.requires.each
    (c.write_labels.ensures.took.passes (unrefused _ c.requires.whole)) c.write_labels.ensures.none
