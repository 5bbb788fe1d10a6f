use Rattle.tv_block.proofs.BlockLaws.{step_in, block_sound}
use Rattle.tv_block.proofs.laws.block_is_sound.Goals as goal

pub returns-clause-numbers : goal.returns-clause-numbers
returns-clause-numbers c = step_in

pub returns-clause-machine : goal.returns-clause-machine
returns-clause-machine c = block_sound
