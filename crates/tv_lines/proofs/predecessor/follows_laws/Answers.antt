use Rattle.tv_lines.proofs.PredecessorLaws.{follows_sound}
use Rattle.tv_lines.proofs.PredecessorComplete.{follows_complete}
use Rattle.tv_lines.proofs.NormalLaws.{follows_normal}
use Rattle.tv_lines.proofs.PredecessorSizes.{follows_sizes}
use Rattle.tv_lines.proofs.PredecessorCosts.{follows_cost}
use Rattle.tv_lines.proofs.predecessor.follows_laws.Goals as goal

pub returns : goal.returns
returns c = record { sound = follows_sound; complete = follows_complete; normal = follows_normal; sizes = follows_sizes; costs = follows_cost }
