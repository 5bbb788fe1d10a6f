use Rattle.tv_fill.proofs.Satisfaction.{fillings_satisfy}
use Rattle.tv_fill.proofs.laws.fillings_satisfy.Goals as goal

pub returns : goal.returns
returns c = fillings_satisfy
