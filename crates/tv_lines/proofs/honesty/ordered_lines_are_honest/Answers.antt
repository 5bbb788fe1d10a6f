use Rattle.tv_lines.proofs.TimeOrder.{ordered_honest}
use Rattle.tv_lines.proofs.honesty.ordered_lines_are_honest.Goals as goal

pub returns : goal.returns
returns c = ordered_honest
