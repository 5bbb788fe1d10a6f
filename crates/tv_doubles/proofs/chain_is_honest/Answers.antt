use Rattle.tv_doubles.proofs.ChainLaws.{chain_honest}
use Rattle.tv_doubles.proofs.chain_is_honest.Goals as goal

pub returns : goal.returns
returns c = chain_honest
