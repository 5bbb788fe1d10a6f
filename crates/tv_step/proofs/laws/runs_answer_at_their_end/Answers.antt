use Rattle.tv_step.proofs.EndLaws.{answer_is_within, end_answers, last_answers}
use Rattle.tv_step.proofs.laws.runs_answer_at_their_end.Goals as goal

pub returns-clause-within : goal.returns-clause-within
returns-clause-within c = answer_is_within

pub returns-clause-steps : goal.returns-clause-steps
returns-clause-steps c = end_answers

pub returns-clause-last : goal.returns-clause-last
returns-clause-last c = last_answers
