use Rattle.tv_step.proofs.HonestLaws.{boot_leaves_the_start, lines_leave_the_state, lines_are_honest}
use Rattle.tv_step.proofs.laws.runs_are_honest.Goals as goal

pub returns-clause-boot : goal.returns-clause-boot
returns-clause-boot c = boot_leaves_the_start

pub returns-clause-steps : goal.returns-clause-steps
returns-clause-steps c = lines_leave_the_state

pub returns-clause-honest : goal.returns-clause-honest
returns-clause-honest c = lines_are_honest
