use Rattle.tv_lines.proofs.AddressOrder.{sorted_ordered}
use Rattle.tv_lines.proofs.honesty.sorted_lines_are_ordered.Goals as goal

pub returns : goal.returns
returns c = sorted_ordered
