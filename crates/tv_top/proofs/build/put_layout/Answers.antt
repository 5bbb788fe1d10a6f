use Rattle.tv_core.proofs.Common.{refl, ap, ◌∙◌, rules, range_with_len}
use Rattle.std.proofs.lemmas.List.FromFn.{length-range_with_len}
use Rattle.std.proofs.lemmas.Result.{err_from_is_err_and}
use Rattle.tv_core.specs.declared.lines.Counts.{Counts}
use Rattle.tv_block.specs.Block.{block_of}
use Rattle.tv_layout.specs.Layout.{layout_of}
use Rattle.tv_layout.specs.Systems.{system_of}
use Rattle.tv_layout.specs.Places.{runs_of}
use Rattle.tv_r1cs_write.proofs.StreamLaws.{IsBegun, streamed_some, streamed_all}
use Rattle.tv_r1cs_write.specs.Streams as streams
use Rattle.tv_r1cs_write.specs.Streams.{stream}
use Rattle.tv_r1cs_write.specs.declared.stream.StreamSink.{StreamSink}
use Rattle.tv_plan.specs.Contents.{Content.{Constraints}}
use Rattle.tv_plan.proofs.StreamLaws.{writes_at, writes_nothing, writes_system}
use Rattle.tv_top.proofs.build.put_layout.Given as given
use Rattle.tv_top.proofs.build.put_layout.Goals as goal
use Rattle.tv_top.proofs.build.put_layout.Goals.{In-Ok}

begun : (g : given.Over) (c : In-Ok g) →
    IsBegun {S = StreamSink g.row.D.Denot} (stream g.D.Files.seen) c.args.place.name.now (g.D.Files.seen c.args.files.now)
    c.in-Ok.sink (layout_of (block_of g.row.W) c.args.net (runs_of g.row.W c.args.image.now c.args.n c.args.t))
    (system_of c.args.net (runs_of g.row.W c.args.image.now c.args.n c.args.t)) c.sizes-counts.result
    (system_of c.args.net (runs_of g.row.W c.args.image.now c.args.n c.args.t)).wires
begun g c = record {
  creates = c.in-Ok.ensures.ok_creates;
  named = c.in-Ok.ensures.begins.name;
  begins = c.in-Ok.ensures.begins.begun ∙ ap (λ (counts : Counts). streams.begun c.sizes-counts.result counts.wires) c.sizes-counts.ensures.counts;
  stands = c.in-Ok.ensures.begins.stands;
  counted = c.sizes-counts.ensures.counts;
  list = refl;
  next = refl;
  publics = rw c.sizes-counts.ensures.counts at c.sizes-counts.ensures.publics;
  wires_fit = search rules;
  constraints_fit = search rules;
}

pub returns-in-Err : goal.returns-in-Err
returns-in-Err g c =
    writes_at (writes_nothing c.args.place.word c.args.place.name.now (Constraints (system_of c.args.net
    (runs_of g.row.W c.args.image.now c.args.n c.args.t))) _ _ c.in-Err.refused.why c.in-Err.ensures.err_creates) (search rules)

pub returns-in_err-emit_system : goal.returns-in_err-emit_system
returns-in_err-emit_system g c =
    let is = streamed_some _ _ _ _ _ _ _ _ (range_with_len 0)
    (begun g (goal.at.returns-in_err-emit_system g c).In-Ok) c.emit_system.new.s c.in_err-emit_system.field-0.0 c.in_err-emit_system.ensures.emits in
    let p = err_from_is_err_and c.from_residual.result c.from_residual.ensures.1 in
    rw (p.1, p.2) (writes_at (writes_system c.args.place.word _ _ _ _ _ is) (search rules))

pub returns : goal.returns
returns g c =
    let is = streamed_all _ _ _ _ _ _ _ _ (range_with_len 0)
    (begun g (goal.at.returns g c).In-Ok) c.emit_system.new.s _ c.in_ok-emit_system.field-0 c.finish.result
    (length-range_with_len 0 _) c.in_ok-emit_system.ensures.emits.puts c.finish.ensures in
    writes_at (writes_system c.args.place.word _ _ _ _ c.finish.result is) (search rules)
