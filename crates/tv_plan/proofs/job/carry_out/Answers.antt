use Rattle.tv_core.proofs.Common.{◌≡◌, false, rules}
use Rattle.tv_plan.specs.Answers.{is_shared}
use Rattle.tv_plan.proofs.AnswerLaws.{answers_done, answers_refused}
use Rattle.tv_plan.proofs.job.carry_out.Goals as goal
use Rattle.tv_plan.proofs.job.carry_out.Goals.{in-Ok, in-Err}

pub returns : goal.returns
returns g c = elim c.match-read.branch [
  | in-Ok w ↦ let apart : is_shared (g.J.Job.asks w.in-Ok.job).amounts (g.J.Job.asks w.in-Ok.job).flaws ≡ false = search rules in
      rw w.in-Ok.ensures (answers_done (g.J.Job.asks w.in-Ok.job) w.perform.result _ _ _ _ _ apart w.perform.ensures
      (rw (w.files-is, w.ending-is, w.from-ending.ensures) at c.conclude.ensures))
  | in-Err w ↦ answers_refused _ _ _ _ _ _ w.in-Err.ensures (rw (w.files-is, w.ending-is) at c.conclude.ensures)
]
