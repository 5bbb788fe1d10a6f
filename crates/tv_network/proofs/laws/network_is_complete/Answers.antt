use Rattle.tv_network.proofs.NetworkLaws.{network_complete}
use Rattle.tv_network.proofs.laws.network_is_complete.Goals as goal

pub returns : goal.returns
returns c = network_complete
