use Rattle.tv_core.proofs.Common.{refl, Constraint}
use Rattle.tv_container.proofs.Buffers.{unrefused}
use Rattle.tv_r1cs_write.proofs.Constraints.{put_by}
use Rattle.tv_r1cs_write.proofs.stream.StreamSinkSink.put.Goals as goal

pub returns : goal.returns
returns g c = record {
  emits =
      let row : Constraint = record { a = c.args.a.now; b = c.args.b.now; c = c.args.c.now } in
      let passes = c.put_row.ensures.took.passes (unrefused _ c.requires.whole) in
      put_by _ _ _ row c.put_row.new.pending.outcome refl refl c.requires.a_made c.requires.b_made c.requires.c_made passes c.put_row.ensures.short refl
      c.requires.whole;
}
