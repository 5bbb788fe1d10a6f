use Rattle.tv_core.proofs.Common.{refl}
use Rattle.tv_plan.specs.Contents.{Content.{Rest}}
use Rattle.tv_top.specs.Shrink.{shrink_asks}
use Rattle.tv_plan.proofs.AnswerLaws.{does_stopped, does_found, completes_whole, completes_cut}
use Rattle.tv_plan.proofs.Common.{Write}
use Rattle.tv_plan.proofs.StreamLaws.{writes_streamed}
use Rattle.tv_top.proofs.shrink.ShrinkArgsJob.perform.Goals as goal

pub returns-in_err-shrunk : goal.returns-in_err-shrunk
returns-in_err-shrunk g c = does_stopped (shrink_asks c.args.self) _ _ _ _ _ _ _ refl c.in_err-shrunk.ensures c.from_residual.ensures.1

pub returns-in_err-streamed : goal.returns-in_err-streamed
returns-in_err-streamed g c =
    let out : Write = record { word = c.args.self.out.word; name = c.args.self.out.name.now; content = Rest c.in_ok-shrunk.shrunk } in
    let writes = writes_streamed out _ _ c.write.result c.write.ensures.file c.write.ensures.read in
    does_found (shrink_asks c.args.self) _ _ _ _ _ _ _ _ refl refl c.in_ok-shrunk.ensures
    (completes_cut _ _ _ _ _ _ (rw (← c.in_err-streamed.ensures) at writes) c.from_residual-in_err-streamed.ensures.1)

pub returns : goal.returns
returns g c =
    let out : Write = record { word = c.args.self.out.word; name = c.args.self.out.name.now; content = Rest c.in_ok-shrunk.shrunk } in
    let writes = writes_streamed out _ _ c.write.result c.write.ensures.file c.write.ensures.read in
    does_found (shrink_asks c.args.self) _ _ _ _ _ _ _ _ refl refl c.in_ok-shrunk.ensures
    (completes_whole _ _ _ _ _ _ refl (rw (← c.in_ok-streamed.ensures) at writes))
