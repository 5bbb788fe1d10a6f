use Rattle.tv_step.proofs.RangeLaws.{start_in_range, step_keeps_range, run_keeps_range, answer_is_word, operand_is_word}
use Rattle.tv_step.proofs.laws.states_are_in_range.Goals as goal

pub returns-clause-start : goal.returns-clause-start
returns-clause-start c = start_in_range

pub returns-clause-step : goal.returns-clause-step
returns-clause-step c = step_keeps_range

pub returns-clause-run : goal.returns-clause-run
returns-clause-run c = run_keeps_range

pub returns-clause-answer : goal.returns-clause-answer
returns-clause-answer c = answer_is_word

pub returns-clause-operand : goal.returns-clause-operand
returns-clause-operand c = operand_is_word
