use Rattle.tv_container.proofs.Buffers.{unrefused}
use Rattle.tv_wtns.specs.Takers.{taker_of}
use Rattle.tv_wtns.proofs.Finish.{finished}
use Rattle.tv_wtns.proofs.file_values.FileValues.finish.Goals as goal

pub returns : goal.returns
returns g c = finished (taker_of g.D.Files.seen c.args.self) _ _ _ (c.flush.ensures.took.passes (unrefused _ c.requires.whole)) c.flush.ensures.none
