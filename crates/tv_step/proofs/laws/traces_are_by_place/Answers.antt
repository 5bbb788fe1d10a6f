use Rattle.tv_step.proofs.PlaceLaws.{lines_are_three_a_step, states_are_one_more, lines_by_place, states_by_place, times_follow}
use Rattle.tv_step.proofs.laws.traces_are_by_place.Goals as goal

pub returns-clause-lines : goal.returns-clause-lines
returns-clause-lines c = lines_are_three_a_step

pub returns-clause-states : goal.returns-clause-states
returns-clause-states c = states_are_one_more

pub returns-clause-line : goal.returns-clause-line
returns-clause-line c = lines_by_place

pub returns-clause-state : goal.returns-clause-state
returns-clause-state c = states_by_place

pub returns-clause-times : goal.returns-clause-times
returns-clause-times c = times_follow
