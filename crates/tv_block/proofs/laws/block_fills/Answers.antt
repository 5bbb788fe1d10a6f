use Rattle.tv_block.proofs.MachineFills.{machine_values_fit}
use Rattle.tv_block.proofs.SizeFills.{block_sizes}
use Rattle.tv_block.proofs.laws.block_fills.Goals as goal

pub returns-clause-numbers : goal.returns-clause-numbers
returns-clause-numbers c = block_sizes

pub returns-clause-machine : goal.returns-clause-machine
returns-clause-machine c = machine_values_fit
