use Rattle.tv_block.proofs.StepFills.{steps_are_given}
use Rattle.tv_block.proofs.laws.steps_are_given.Goals as goal

pub returns : goal.returns
returns c = steps_are_given
