use Rattle.tv_core.proofs.Common.{sym, ◌∙◌, arith}
use Rattle.tv_check.proofs.Difference.{is_done}
use Rattle.tv_check.proofs.publics.first_difference.Goals as goal

pub returns-clause-place : goal.returns-clause-place
returns-clause-place c = c.then_some.ensures ∙ sym (is_done c.args.xs.now c.args.ys.now c.loop-at.at _ (omega arith) c.loop-at.invariant.rest)
