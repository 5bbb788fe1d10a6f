use Rattle.tv_numbers.proofs.ShownLaws.{machine_shows, olds_are_shown, seen_in_range}
use Rattle.tv_numbers.proofs.machine_shows.Goals as goal

pub returns-clause-step : goal.returns-clause-step
returns-clause-step c = machine_shows

pub returns-clause-view : goal.returns-clause-view
returns-clause-view c = seen_in_range

pub returns-clause-olds : goal.returns-clause-olds
returns-clause-olds c = olds_are_shown
