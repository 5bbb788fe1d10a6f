use Rattle.tv_core.proofs.Common.{append_assoc}
use Rattle.tv_plan.proofs.reasons.push_read.Goals as goal

pub returns-in-WireRange-clause-text : goal.returns-in-WireRange-clause-text
returns-in-WireRange-clause-text c =
    rw (c.in-WireRange.is, c.push_number-in-WireRange.ensures.text, c.push_between-in-WireRange.ensures.text, c.from.ensures) (simp append_assoc)
