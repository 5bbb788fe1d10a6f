use Rattle.tv_core.proofs.Common.{◌≡◌, ℕ, sym, ◌∙◌}
use Rattle.tv_step.proofs.EndLaws.{answer_is_within}
use Rattle.tv_step.specs.Machine.{start, end_of}
use Rattle.tv_step.specs.State.{State}
use Rattle.tv_step.specs.declared.end.End.TheVariants as ends
use Rattle.tv_step.proofs.run_trace.trace.Goals as goal

pub returns-clause-trace : goal.returns-clause-trace
returns-clause-trace g c =
    let w : ℕ = g.row.W in
    let first : State = start w c.args.image.now c.args.tape.now c.args.aux.now in
    let answers : end_of w c.args.t first ≡ ends.Answer c.in-Answer.value c.in-Answer.step = sym c.in_ok-end.ensures ∙ c.in-Answer.is in
    record {
      answer = (c.in-Answer.step, (answer_is_within w c.args.t first c.in-Answer.value c.in-Answer.step answers).1, answers);
      lines = c.in_ok-lines.ensures.lines;
      states = c.in_ok-lines.ensures.states;
    }
