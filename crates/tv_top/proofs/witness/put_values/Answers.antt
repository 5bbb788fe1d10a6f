use Rattle.tv_core.proofs.Common.{ap, ◌∙◌, rules}
use Rattle.std.proofs.lemmas.Result.{err_from_is_err_and}
use Rattle.tv_wtns.proofs.StreamLaws.{IsBegun, streamed_some, streamed_all}
use Rattle.tv_wtns.specs.Takers.{ValuesProgress, taker_of}
use Rattle.tv_wtns.specs.declared.file_values.FileValues.{FileValues}
use Rattle.tv_plan.specs.Contents.{Content.{Values}}
use Rattle.tv_plan.proofs.StreamLaws.{writes_at, writes_nothing, writes_values}
use Rattle.tv_top.proofs.witness.put_values.Given as given
use Rattle.tv_top.proofs.witness.put_values.Goals as goal
use Rattle.tv_top.proofs.witness.put_values.Goals.{In-Ok}

begun : (g : given.Over) (c : In-Ok g) →
    IsBegun {V = FileValues g.row.D.Denot} (taker_of g.D.Files.seen) c.args.place.name.now (g.D.Files.seen c.args.files.now) c.in-Ok.taker c.args.filling.values
begun g c = record {
  creates = c.in-Ok.ensures.ok_creates;
  named = c.in-Ok.ensures.name;
  stands = c.in-Ok.ensures.stands;
  count = ap (λ (p : ValuesProgress). p.count) c.in-Ok.ensures.begun ∙ c.count.ensures;
  few = rw (← c.count.ensures) (search rules);
}

pub returns-in-Err : goal.returns-in-Err
returns-in-Err g c = writes_at (writes_nothing c.args.place.word c.args.place.name.now
    (Values c.args.filling.values) _ _ c.in-Err.refused.why c.in-Err.ensures.err_creates) (search rules)

pub returns-in_err-give : goal.returns-in_err-give
returns-in_err-give g c =
    let is = streamed_some _ _ _ _ _ (begun g (goal.at.returns-in_err-give g c).In-Ok) c.give.new.v c.in_err-give.field-0.0 c.in_err-give.ensures.gives in
    let p = err_from_is_err_and c.from_residual.result c.from_residual.ensures.1 in
    rw (p.1, p.2) (writes_at (writes_values c.args.place.word _ _ _ _ _ is) (search rules))

pub returns : goal.returns
returns g c =
    let is = streamed_all _ _ _ _ _ (begun g (goal.at.returns g c).In-Ok) c.give.new.v _ c.finish.result c.in_ok-give.ensures.gives c.finish.ensures in
    writes_at (writes_values c.args.place.word _ _ _ _ c.finish.result is) (search rules)
