use Rattle.tv_step.proofs.EndLaws.{steps_at_the_end, steps_at_the_front, answer_stays}
use Rattle.tv_step.proofs.laws.steps_follow.Goals as goal

pub returns-clause-end : goal.returns-clause-end
returns-clause-end c = steps_at_the_end

pub returns-clause-front : goal.returns-clause-front
returns-clause-front c = steps_at_the_front

pub returns-clause-answer : goal.returns-clause-answer
returns-clause-answer c = answer_stays
