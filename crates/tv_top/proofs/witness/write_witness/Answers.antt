use Rattle.tv_core.proofs.Common.{Err, refl}
use Rattle.tv_plan.proofs.AnswerLaws.{completes_as, completes_whole, completes_cut, completes_nothing}
use Rattle.tv_plan.specs.declared.refusal.Stop.TheVariants.{Memory}
use Rattle.tv_top.proofs.WitnessClaim.{filled, unfilled}
use Rattle.tv_top.proofs.witness.write_witness.Goals as goal

pub returns-in_err-streamed-in-Ok : goal.returns-in_err-streamed-in-Ok
returns-in_err-streamed-in-Ok g c =
    let is = rw (c.number.ensures.number, c.as_slice-image.ensures, c.as_slice-tape.ensures, c.as_slice-aux.ensures) at c.in-Ok.ensures.filling in
    completes_as _ _ _ _ _ _ (filled g.row.W c.args.args.now.net c.args.args.now.t c.args.inputs.now c.in-Ok.filling c.requires.width is)
    (completes_cut _ _ _ _ _ _ (rw (← c.in_err-streamed-in-Ok.ensures) at c.put_values.ensures) c.from_residual.ensures.1)

pub returns-in_ok-streamed-in-Ok : goal.returns-in_ok-streamed-in-Ok
returns-in_ok-streamed-in-Ok g c =
    let is = rw (c.number.ensures.number, c.as_slice-image.ensures, c.as_slice-tape.ensures, c.as_slice-aux.ensures) at c.in-Ok.ensures.filling in
    completes_as _ _ _ _ _ _ (filled g.row.W c.args.args.now.net c.args.args.now.t c.args.inputs.now c.in-Ok.filling c.requires.width is)
    (completes_whole _ _ _ _ _ _ refl (rw (← c.in_ok-streamed-in-Ok.ensures) at c.put_values.ensures))

pub returns-in-Err-NoRun : goal.returns-in-Err-NoRun
returns-in-Err-NoRun g c =
    let is = rw (c.in-Err-NoRun.field-0-is, c.number.ensures.number, c.as_slice-image.ensures, c.as_slice-tape.ensures, c.as_slice-aux.ensures)
    at c.in-Err-NoRun.ensures.fault in
    unfilled g.row.W c.args.args.now.net c.args.args.now.t c.args.inputs.now c.in-Err-NoRun.end _ _ c.requires.width is

pub returns-in-Err-Memory : goal.returns-in-Err-Memory
returns-in-Err-Memory g c = completes_nothing _ _ (Err Memory) _ refl
