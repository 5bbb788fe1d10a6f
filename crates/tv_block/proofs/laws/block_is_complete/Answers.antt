use Rattle.tv_block.proofs.BlockLaws.{block_complete}
use Rattle.tv_block.proofs.MachineFills.{olds_met, machine_step_met}
use Rattle.tv_block.proofs.laws.block_is_complete.Goals as goal

pub returns-clause-numbers : goal.returns-clause-numbers
returns-clause-numbers c = block_complete

pub returns-clause-olds : goal.returns-clause-olds
returns-clause-olds c = olds_met

pub returns-clause-machine : goal.returns-clause-machine
returns-clause-machine c = machine_step_met
