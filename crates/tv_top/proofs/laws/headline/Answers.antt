use Rattle.tv_top.proofs.HeadlineLaws.{headline, yes_to_runs}
use Rattle.tv_top.proofs.laws.headline.Goals as goal

pub returns : goal.returns
returns c = record { claim = headline; runs = yes_to_runs }
