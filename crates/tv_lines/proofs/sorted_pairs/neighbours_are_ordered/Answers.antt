use Rattle.tv_lines.proofs.Neighbours.{neighbours_ordered}
use Rattle.tv_lines.proofs.sorted_pairs.neighbours_are_ordered.Goals as goal

pub returns : goal.returns
returns c = neighbours_ordered
