use Rattle.tv_shrink.proofs.Solutions.{keeps_solutions}
use Rattle.tv_shrink.proofs.laws.keeps_solutions.Goals as goal

pub returns : goal.returns
returns c = keeps_solutions
