use Rattle.tv_block.proofs.BlockChain.{block_counted}
use Rattle.tv_block.proofs.laws.block_is_counted.Goals as goal

pub returns : goal.returns
returns c = block_counted
