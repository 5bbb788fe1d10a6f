use Rattle.tv_step.proofs.ReadLaws.{tapes_are_left, taken_are_the_front, taken_by_counts, ended_stays, ended_takes_nothing, answering_takes_few}
use Rattle.tv_step.proofs.laws.tapes_are_taken_in_order.Goals as goal

pub returns-clause-left : goal.returns-clause-left
returns-clause-left c = tapes_are_left

pub returns-clause-front : goal.returns-clause-front
returns-clause-front c = taken_are_the_front

pub returns-clause-word : goal.returns-clause-word
returns-clause-word c = taken_by_counts

pub returns-clause-ended : goal.returns-clause-ended
returns-clause-ended c = ended_stays

pub returns-clause-nothing : goal.returns-clause-nothing
returns-clause-nothing c = ended_takes_nothing

pub returns-clause-few : goal.returns-clause-few
returns-clause-few c = answering_takes_few
